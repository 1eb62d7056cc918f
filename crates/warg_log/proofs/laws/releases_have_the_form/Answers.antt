use Rattle.warg_log.proofs.FormLaws.{releases-formed}
use Rattle.warg_log.proofs.laws.releases_have_the_form.Goals as goal

pub returns : goal.returns
returns c = releases-formed
