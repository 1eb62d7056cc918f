pub mod ContentLaws
pub mod GroupLaws
pub mod GroupWrites
pub mod KeptLaws
pub mod UpdateLaws
pub mod UpdateSteps
