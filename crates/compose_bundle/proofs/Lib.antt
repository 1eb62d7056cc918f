pub mod ErrorLaws
pub mod FoundLaws
pub mod ItemLaws
pub mod DefinedLaws
pub mod NameLaws
pub mod WholeLaws
