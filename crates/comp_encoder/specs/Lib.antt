pub mod Largest
pub mod Texts
pub mod Writing
pub mod Builder
