use Rattle.warg_proof.proofs.TrueMaps.{same_map_law}
use Rattle.warg_proof.proofs.laws.map_root_is_that_of_the_map.Goals as goal

pub returns : goal.returns
returns c = same_map_law
