pub mod Braces
pub mod LexLaws
pub mod PrettyLaws
pub mod FrontLaws
pub mod ReadLaws
