use Rattle.warg_proof.proofs.TrueLaws.{true_consistency_law}
use Rattle.warg_proof.proofs.laws.true_consistency.Goals as goal

pub returns : goal.returns
returns c = true_consistency_law
