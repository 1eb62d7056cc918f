pub mod Asked
pub mod Places
pub mod Maps
pub mod Subtrees
