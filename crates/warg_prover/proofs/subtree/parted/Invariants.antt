use Rattle.std.proofs.Common.{◌≡◌, take}
use Rattle.warg_proof.specs.MapTree.{left_of, right_of}
use Rattle.warg_prover.specs.Subtrees.{entries_of}
use Rattle.warg_prover.proofs.subtree.parted.Given as goal

abbrev pub invariant-loop-member : goal.invariant-loop-member
invariant-loop-member l = record {
  left : entries_of l.left.items ≡ left_of l.depth (entries_of (take l.member-index l.members));
  right : entries_of l.right.items ≡ right_of l.depth (entries_of (take l.member-index l.members));
}
