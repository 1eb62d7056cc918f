use Rattle.std.proofs.Common.{◌≡◌}
use Rattle.warg_proof.specs.MapProofs.{given_before}
use Rattle.warg_proof.proofs.reading.given_count.Given as goal

abbrev pub invariant-loop-depth : goal.invariant-loop-depth
invariant-loop-depth l = l.count ≡ given_before l.depth l.given
