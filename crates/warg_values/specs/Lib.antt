pub mod Answers
pub mod Faults
pub mod Reading
pub mod ReadingLaws
