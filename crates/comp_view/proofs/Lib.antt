pub mod PartLaws
pub mod NamedLaws
pub mod AgainLaws
