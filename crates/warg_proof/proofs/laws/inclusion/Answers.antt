use Rattle.warg_proof.proofs.LogLaws.{inclusion_law}
use Rattle.warg_proof.proofs.laws.inclusion.Goals as goal

pub returns : goal.returns
returns c = inclusion_law
