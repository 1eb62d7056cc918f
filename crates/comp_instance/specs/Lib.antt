pub mod Lifted
pub mod Items
pub mod OwnModules
pub mod Renamed
pub mod Instances
pub mod Exports
