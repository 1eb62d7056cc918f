pub mod Draws
pub mod Needs
pub mod Releases
pub mod Content
pub mod World
pub mod Demonstrated
