pub mod StoredLogs
pub mod StoredTexts
pub mod Shown
pub mod Writable
