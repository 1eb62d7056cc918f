pub mod Known
pub mod Loose
pub mod Standing
