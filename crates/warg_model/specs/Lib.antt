pub mod Records
pub mod Signatures
pub mod Held
pub mod State
pub mod Hashes
pub mod Growths
pub mod Pages
