pub mod Same
pub mod Named
pub mod Copies
mod ArgumentSteps
