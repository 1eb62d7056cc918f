pub mod Meaning
pub mod Stands
pub mod Readable
pub mod Shows
pub mod Described
pub mod Keeps
pub mod Items
