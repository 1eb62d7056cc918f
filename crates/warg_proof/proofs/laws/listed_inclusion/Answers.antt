use Rattle.warg_proof.proofs.TrueBundles.{listed_inclusion_law}
use Rattle.warg_proof.proofs.laws.listed_inclusion.Goals as goal

pub returns : goal.returns
returns c = listed_inclusion_law
