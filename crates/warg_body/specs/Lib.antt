pub mod Validated
pub mod ContentLaws
