pub mod Body
pub mod Views
pub mod Replies
pub mod Requests
