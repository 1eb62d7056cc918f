use Rattle.warg_proof.proofs.LogLaws.{consistency_law}
use Rattle.warg_proof.proofs.laws.consistency.Goals as goal

pub returns : goal.returns
returns c = consistency_law
