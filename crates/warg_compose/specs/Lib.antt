pub mod Read
pub mod Composed
pub mod Wired
pub mod Open
pub mod Left
pub mod Linked
pub mod Held
