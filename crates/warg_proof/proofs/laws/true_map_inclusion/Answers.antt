use Rattle.warg_proof.proofs.TrueMaps.{true_map_law}
use Rattle.warg_proof.proofs.laws.true_map_inclusion.Goals as goal

pub returns : goal.returns
returns c = true_map_law
