use Rattle.warg_proof.proofs.TrueLaws.{true_inclusion_law}
use Rattle.warg_proof.proofs.laws.true_inclusion.Goals as goal

pub returns : goal.returns
returns c = true_inclusion_law
