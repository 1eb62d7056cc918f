pub mod Sides
pub mod ScopeTypes
pub mod OtherNumbers
pub mod Orders
