pub mod FileMaps
pub mod OutLaws
