pub mod Causes
pub mod TreeLaws
pub mod CauseLaws
pub mod WholeLaws
pub mod PlanCauses
pub mod PlanCauseLaws
