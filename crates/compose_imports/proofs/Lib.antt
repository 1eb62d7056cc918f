mod FoundLaws
mod GrownLaws
mod LeftLaws
mod AddedLaws
mod RefusalLaws
mod CallLaws
