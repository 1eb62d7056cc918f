use Rattle.std.proofs.Common.{ℕ, ◌<◌}
use Rattle.comp_entity.specs.Names.{Change}
use Rattle.compose_fit.specs.Fit.{FitsAt}
use Rattle.compose_fit.specs.Seen.{AreSeen, compared_by}
use Rattle.compose_left.specs.Wired.{FindsWires}
use Rattle.compose_left.specs.Wiring.{Wiring}
use Rattle.compose_fit.proofs.fit.seen_misfit.Given as goal

abbrev pub invariant-loop-target : goal.invariant-loop-target
invariant-loop-target l = (c : ℕ → Change) (w : Wiring) → AreSeen l.table c 0 l.seen w.shapes → FindsWires l.wires w.wires → (t i : ℕ) → t < l.target → FitsAt (compared_by c) w t i
