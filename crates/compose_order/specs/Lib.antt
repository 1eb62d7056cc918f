pub mod Needs
pub mod Agreed
pub mod Known
pub mod Brought
