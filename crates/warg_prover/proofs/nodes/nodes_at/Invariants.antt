use Rattle.std.proofs.Common.{◌≡◌, take, map}
use Rattle.warg_prover.specs.Places.{node_at}
use Rattle.warg_prover.proofs.nodes.nodes_at.Given as goal

abbrev pub invariant-loop-at : goal.invariant-loop-at
invariant-loop-at l = l.made.items ≡ map (node_at l.hashes) (take l.at-index l.places)
