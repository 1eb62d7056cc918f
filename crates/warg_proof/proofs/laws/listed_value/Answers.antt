use Rattle.warg_proof.proofs.TrueBundles.{listed_value_law}
use Rattle.warg_proof.proofs.laws.listed_value.Goals as goal

pub returns : goal.returns
returns c = listed_value_law
