pub mod Named
pub mod World
pub mod State
pub mod Asked
pub mod AskViews
pub mod Answers
pub mod Steps
