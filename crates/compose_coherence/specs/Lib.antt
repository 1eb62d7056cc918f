pub mod Agreement
pub mod Remaining
pub mod Shapes
