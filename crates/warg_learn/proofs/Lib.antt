pub mod ContentLaws
pub mod GroupLaws
pub mod GroupSteps
pub mod LogLaws
pub mod RecalledSteps
pub mod SeenLaws
