use Rattle.std.proofs.Common.{◌≡◌, ℕ, ◌+◌, ◌≤◌, [], length, get_or}
use Rattle.warg_proof.specs.MapTree.{empty_root}
use Rattle.warg_prover.proofs.subtree.empty_roots.Given as goal

abbrev pub invariant-loop-height : goal.invariant-loop-height
invariant-loop-height l = record {
  count : length l.roots.items ≡ l.height + 1;
  each : (h : ℕ) → h ≤ l.height → get_or l.roots.items h [] ≡ empty_root h;
}
