pub mod Wiring
pub mod Spots
pub mod Origins
pub mod Wired
pub mod Numbers
pub mod Renaming
pub mod Merging
pub mod Merged
