use Rattle.std.proofs.Common.{◌≡◌, ◌≤◌, length, take}
use Rattle.warg_url.specs.Label.{before_slashes}
use Rattle.warg_url.proofs.label.before_slashes.Given as goal

abbrev pub invariant-loop-end : goal.invariant-loop-end
invariant-loop-end l = (l.end ≤ length l.path) × (before_slashes (take l.end l.path) ≡ before_slashes l.path)

abbrev pub decreases-loop-end : goal.decreases-loop-end
decreases-loop-end l = l.end
