use Rattle.std.proofs.Common.{ℕ, ◌<◌}
use Rattle.comp_entity.specs.Names.{Change}
use Rattle.compose_fit.specs.Fit.{FitsAt}
use Rattle.compose_fit.specs.Seen.{AreSeen, compared_by}
use Rattle.compose_left.specs.Wired.{FindsWires}
use Rattle.compose_left.specs.Wiring.{Wiring}
use Rattle.compose_fit.proofs.fit.instance_misfit.Given as goal

abbrev pub invariant-loop-import : goal.invariant-loop-import
invariant-loop-import l = (c : ℕ → Change) (w : Wiring) → AreSeen l.table c 0 l.seen w.shapes → FindsWires l.wires w.wires → (i : ℕ) → i < l.import → FitsAt (compared_by c) w l.target i
