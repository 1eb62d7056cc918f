pub mod Views
pub mod Numbered
pub mod Progress
pub mod Read
