pub mod Loops
pub mod AnyLoops
pub mod Tails
pub mod WholeTexts
pub mod Sizes
