pub mod ReplyLaws
pub mod GivenLaws
pub mod RecordedLaws
pub mod AskLaws
pub mod FrontLaws
pub mod TakenLaws
pub mod DownloadLaws
pub mod WholeLaws
