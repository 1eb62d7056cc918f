pub mod CircleLaws
pub mod WaitLaws
pub mod WireLaws
pub mod InstanceLaws
pub mod ShapeLaws
pub mod MergeLaws
pub mod AskedLaws
pub mod RefusalLaws
