pub mod PartLaws
pub mod LearntLaws
pub mod FaultLaws
pub mod UndisturbedLaws
pub mod SearchLaws
