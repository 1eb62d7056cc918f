pub mod Bundled
pub mod Defined
pub mod Refusing
pub mod Errors
pub mod Whole
