use Rattle.std.proofs.Common.{ℕ, ◌≤◌}
use Rattle.compose_agree.specs.Order.{needs_of}
use Rattle.compose_check.specs.Circles.{IsOnCircle}
use Rattle.compose_check.proofs.circles.last_on_circle.Given as goal

abbrev pub invariant-loop-thing : goal.invariant-loop-thing
invariant-loop-thing l = (n : ℕ) → l.thing-counter ≤ n → IsOnCircle (needs_of l.needs) n → ⊥
