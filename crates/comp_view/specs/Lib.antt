pub mod Fields
pub mod KindLaws
pub mod Kinds
pub mod MemoryLaws
pub mod RowLaws
