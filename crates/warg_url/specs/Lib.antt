pub mod RegistryUrl
pub mod Label
