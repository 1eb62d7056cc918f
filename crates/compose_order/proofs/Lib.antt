mod ListLaws
mod CallLaws
mod OrderLaws
mod OutcomeLaws
mod Rows
mod ThingLists
mod ViewLaws
mod BroughtLaws
