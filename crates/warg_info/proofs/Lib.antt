pub mod KeptLaws
pub mod SoundLaws
pub mod FaultLaws
pub mod GrowsLaws
pub mod GrowthLaws
pub mod Rows
