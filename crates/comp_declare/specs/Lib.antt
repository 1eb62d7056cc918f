pub mod Naming
pub mod Heads
pub mod Scopes
pub mod Mentioned
pub mod Outer
pub mod Exported
