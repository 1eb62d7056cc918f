pub mod Link
pub mod Asking
pub mod Errors
pub mod Calls
pub mod Download
pub mod Uploads
pub mod Streams
