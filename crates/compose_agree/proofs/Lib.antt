pub mod OrderLaws
pub mod LeftLaws
pub mod TurnLaws
pub mod CaseLaws
mod ClashLaws
