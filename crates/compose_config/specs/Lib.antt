pub mod Plan
pub mod View
pub mod PlanLaws
pub mod Arguments
pub mod MapLaws
