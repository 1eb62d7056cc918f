pub mod Settled
pub mod Names
pub mod Bits
pub mod NamingBits
pub mod GrownLaws
pub mod Scopes
