pub mod Written
pub mod ReadBack
pub mod Stays
pub use Rattle.compose_known.specs.Imports
pub use Rattle.compose_known.specs.Writable
pub use Rattle.compose_origins.specs.Named
