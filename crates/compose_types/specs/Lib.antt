pub mod Bodies
pub mod Views
pub mod Scopes
pub mod Values
pub mod Modules
pub mod Sights
pub mod Largest
