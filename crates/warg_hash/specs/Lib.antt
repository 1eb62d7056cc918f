pub mod Hash
pub mod ByteLaws
pub mod HashLaws
pub mod Name
pub mod NameLaws
