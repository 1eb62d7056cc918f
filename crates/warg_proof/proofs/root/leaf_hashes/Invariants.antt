use Rattle.std.proofs.Common.{◌≡◌, take, map}
use Rattle.warg_proof.specs.Leaves.{entry_hash}
use Rattle.warg_proof.proofs.root.leaf_hashes.Given as goal

abbrev pub invariant-loop-leaf : goal.invariant-loop-leaf
invariant-loop-leaf l = l.hashes.items ≡ map entry_hash (take l.leaf-index l.leaves)
