mod BoundLaws
mod PartLaws
mod Rows
mod NameLaws
