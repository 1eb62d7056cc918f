pub mod Kept
pub mod Info
pub mod Faults
