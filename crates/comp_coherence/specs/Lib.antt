pub mod Coherence
pub mod NamedTypes
pub mod Changes
pub mod TypeLaws
