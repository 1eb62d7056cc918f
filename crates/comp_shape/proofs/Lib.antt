mod ReadLaws
mod NameLaws
mod RefusalLaws
