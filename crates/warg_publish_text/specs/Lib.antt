pub mod PublishText
pub mod ReadsBack
