pub mod Digits
pub mod Nodes
pub mod Final
pub mod Fronts
pub mod Ends
pub mod Outcomes
pub mod DepthFaults
pub mod Reasons
