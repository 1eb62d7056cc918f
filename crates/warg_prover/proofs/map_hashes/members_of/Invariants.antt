use Rattle.std.proofs.Common.{◌≡◌, take}
use Rattle.warg_proof.specs.MapTree.{IsMap}
use Rattle.warg_prover.specs.Maps.{map_of}
use Rattle.warg_prover.specs.Subtrees.{entries_of}
use Rattle.warg_prover.proofs.map_hashes.members_of.Given as goal

abbrev pub invariant-loop-leaf : goal.invariant-loop-leaf
invariant-loop-leaf l = record {
  entries : entries_of l.members.items ≡ map_of (take l.leaf-index l.leaves);
  formed : IsMap (map_of (take l.leaf-index l.leaves));
}
