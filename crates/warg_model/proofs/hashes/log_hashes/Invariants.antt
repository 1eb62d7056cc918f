use Rattle.std.proofs.Common.{◌≡◌, map, take}
use Rattle.warg_proof.specs.Leaves.{entry_hash}
use Rattle.warg_model.proofs.hashes.log_hashes.Given as goal

abbrev pub invariant-loop-leaf : goal.invariant-loop-leaf
invariant-loop-leaf l = l.log ≡ map entry_hash (take l.leaf-index l.leaves)
