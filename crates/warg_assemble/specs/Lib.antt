pub mod Known
pub mod Parts
pub mod Session
pub mod SessionLaws
