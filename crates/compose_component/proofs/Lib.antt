mod ComponentLaws
mod NameLaws
