pub mod NamespaceFile
pub mod Shown
