use Rattle.compose_agree.proofs.ClashLaws.{one_first_clash}
use Rattle.compose_agree.proofs.laws.one_first_clash.Goals as goal

pub returns : goal.returns
returns c = one_first_clash
