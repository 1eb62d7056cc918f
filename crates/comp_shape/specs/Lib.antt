pub mod Shape
pub mod Image
pub mod Refusal
