pub mod HonestSession
