pub mod ContentFiles
pub mod Shown
