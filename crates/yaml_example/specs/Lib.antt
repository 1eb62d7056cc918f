pub mod Fields
pub mod FieldLaws
pub mod Choices
pub mod Kinds
pub mod ChoiceLaws
