pub mod Wires
pub mod Fit
pub mod Seen
pub mod KeptLaws
