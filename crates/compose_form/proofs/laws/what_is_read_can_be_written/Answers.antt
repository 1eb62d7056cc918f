use Rattle.compose_form.proofs.FormLaws.{parts_keep}
use Rattle.compose_form.proofs.ScopeLaws.{read_keeps}
use Rattle.compose_form.proofs.laws.what_is_read_can_be_written.Goals as goal

pub returns : goal.returns
returns c = λ b bytes parts s has is. read_keeps b parts s (parts_keep bytes parts has) is
