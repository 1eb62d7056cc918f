pub mod Paths
pub mod RegistryFiles
pub mod Resets
pub mod Shown
