use Rattle.std.proofs.Common.{◌≡◌, length}
use Rattle.warg_url.specs.Label.{after_slashes}
use Rattle.warg_url.proofs.label.after_slashes.Given as goal

abbrev pub invariant-loop-rest : goal.invariant-loop-rest
invariant-loop-rest l = after_slashes l.rest ≡ after_slashes l.path

abbrev pub decreases-loop-rest : goal.decreases-loop-rest
decreases-loop-rest l = length l.rest
