pub mod Registry
pub mod PlaceLaws
pub mod Replies
pub mod Honest
