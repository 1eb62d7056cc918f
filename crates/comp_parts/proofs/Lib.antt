mod SettledLaws
mod KeptLaws
mod WholeLaws
mod ValueLaws
mod ItemLaws
mod ShapeLaws
mod PartLaws
mod ComponentLaws
