pub mod ListLaws
pub mod MapLaws
pub mod JsonLaws
mod HeaderLaws
