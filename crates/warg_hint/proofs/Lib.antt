pub mod CutLaws
pub mod GivenLaws
