use Rattle.std.proofs.Common.{◌*◌, ◌^◌, ◌≤◌, length}
use Rattle.warg_prover.specs.Places.{AreHashesAt}
use Rattle.warg_prover.proofs.hashes.keep_whole.Given as goal

abbrev pub invariant-loop-count : goal.invariant-loop-count
invariant-loop-count l = record {
  known : AreHashesAt l.hashes l.fn.nodes.entries → AreHashesAt l.hashes l.nodes.entries;
  room : l.count * 2 ^ l.level ≤ length l.hashes;
}

abbrev pub decreases-loop-count : goal.decreases-loop-count
decreases-loop-count l = l.count
