pub mod NameLaws
pub mod FileLaws
mod Rows
