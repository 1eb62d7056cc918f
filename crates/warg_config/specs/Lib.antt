pub use Rattle.warg_base.specs.Files
pub mod Answers
pub mod ConfigFile
pub mod Paths
pub mod Settings
pub mod Shown
