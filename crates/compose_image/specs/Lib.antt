pub mod Imports
pub mod Instances
pub mod CompositionImage
pub mod Writable
pub mod Additions
