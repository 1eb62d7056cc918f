use Rattle.warg_proof.proofs.MapLaws.{map_law}
use Rattle.warg_proof.proofs.laws.map_inclusion.Goals as goal

pub returns : goal.returns
returns c = map_law
