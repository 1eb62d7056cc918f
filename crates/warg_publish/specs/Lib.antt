pub mod Formed
pub mod Publish
pub mod Shown
