pub mod ContentLaws
pub mod LessonLaws
pub mod LentLaws
pub mod BundleLaws
