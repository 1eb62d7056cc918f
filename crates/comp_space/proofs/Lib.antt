mod BoundLaws
mod DescriptionLaws
mod ModuleLaws
mod RowLaws
mod TreeLaws
mod ValueLaws
