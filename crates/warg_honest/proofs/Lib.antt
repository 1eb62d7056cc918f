pub mod UpdateLaws
pub mod SessionLaws
