pub mod Calls
pub mod Updates
pub mod Plans
pub mod Text
