pub use Rattle.warg_values.specs.Faults
pub mod Failures
pub mod Files
pub mod Out
