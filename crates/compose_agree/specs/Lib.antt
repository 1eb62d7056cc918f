pub mod Order
pub mod Turns
pub mod LetterCase
pub mod Lowered
