pub mod Mentions
pub mod Walked
