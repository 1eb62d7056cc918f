pub mod BodyLaws
pub mod ErrorLaws
pub mod RecordLaws
pub mod ReplyLaws
