pub mod Nodes
pub mod Characters
