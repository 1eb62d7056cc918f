pub mod Loop
pub mod ValidLaws
