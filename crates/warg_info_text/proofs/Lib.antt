pub mod ReplayLaws
pub mod MemberLaws
pub mod RecordLaws
pub mod InfoLaws
pub mod CheckpointLaws
