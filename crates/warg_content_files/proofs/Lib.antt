pub mod ContentFileLaws
pub mod DigestLaws
