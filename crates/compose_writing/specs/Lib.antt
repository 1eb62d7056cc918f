pub mod Keys
pub mod Scopes
pub mod WriteValues
pub mod WriteModules
pub mod WriteEntities
pub mod Conditions
