pub mod Asking
pub mod Uploading
