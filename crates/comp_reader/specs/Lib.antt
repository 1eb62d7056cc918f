pub mod Refusal
pub mod Views
pub mod Nested
pub mod Places
