pub mod ExportLaws
pub mod KindLaws
pub mod LooseLaws
pub mod ModuleLaws
pub mod StandingLaws
