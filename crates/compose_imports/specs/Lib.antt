pub mod Calls
pub mod Imported
pub mod Begun
