use Rattle.warg_proof.proofs.TrueBundles.{listed_consistency_law}
use Rattle.warg_proof.proofs.laws.listed_consistency.Goals as goal

pub returns : goal.returns
returns c = listed_consistency_law
