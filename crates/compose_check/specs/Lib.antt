pub mod Composition
pub mod Circles
pub mod Spread
pub mod Open
pub mod Checked
pub mod Bits
pub mod Shapes
pub mod Merging
