pub mod Completion
