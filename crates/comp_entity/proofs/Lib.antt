pub mod ListLaws
pub mod ViewLaws
pub mod StepLaws
