pub mod AssembleLaws
pub mod BundleLaws
pub mod FoundLaws
pub mod LockListLaws
