pub mod Letters
pub mod Loops
pub mod Quotes
pub mod Blocks
