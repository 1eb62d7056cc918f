pub mod Content
pub mod Names
pub mod Component
pub use Rattle.comp_shape.specs.Refusal
pub use Rattle.comp_shape.specs.Shape
