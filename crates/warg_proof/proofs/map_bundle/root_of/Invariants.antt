use Rattle.std.proofs.Common.{◌≡◌, ◌-◌}
use Rattle.warg_proof.specs.MapTree.{subtree_path_root}
use Rattle.warg_proof.specs.MapProofs.{given_before, siblings_within}
use Rattle.warg_proof.proofs.map_bundle.root_of.Given as goal

abbrev pub invariant-loop-height : goal.invariant-loop-height
invariant-loop-height l = record {
  root_is : l.root ≡ subtree_path_root l.key l.value (siblings_within l.height (record { given = l.given; siblings = l.siblings }));
  next_is : l.next ≡ given_before (256 - l.height) l.given;
}
