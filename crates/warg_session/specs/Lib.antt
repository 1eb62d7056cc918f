pub mod Pages
pub mod PagesLaws
pub mod Recording
pub mod RecordingLaws
pub mod Refusals
pub mod Turns
pub mod Updating
pub use Rattle.warg_update.specs.Proved
