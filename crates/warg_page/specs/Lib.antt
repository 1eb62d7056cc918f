pub mod Logs
pub mod Views
pub mod Steps
pub mod PageFaults
pub mod Presence
pub mod IdFaults
