pub mod InOrder
pub mod Placed
pub mod Whole
pub mod Importable
pub use Rattle.compose_image.specs.Imports
pub use Rattle.compose_image.specs.Writable
