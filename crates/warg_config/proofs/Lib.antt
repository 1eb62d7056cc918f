pub mod FileLaws
pub mod JsonLaws
pub mod PathLaws
pub mod SearchLaws
