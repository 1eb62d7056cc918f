pub mod Asked
pub mod View
pub mod Contents
pub mod Lent
pub mod Errors
pub mod Bundle
