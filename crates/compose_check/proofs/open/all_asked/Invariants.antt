use Rattle.std.proofs.Common.{◌≡◌, take}
use Rattle.comp_entity.specs.Views.{named_entities}
use Rattle.compose_check.specs.Open.{asked_by_all}
use Rattle.compose_left.specs.Numbers.{AreOrigins}
use Rattle.compose_left.specs.Wired.{FindsWires}
use Rattle.compose_left.specs.Wiring.{HasNoCircle, Wiring, shapes_of}
use Rattle.compose_check.proofs.open.all_asked.Given as goal

abbrev pub invariant-loop-target : goal.invariant-loop-target
invariant-loop-target l = (w : Wiring) → AreOrigins l.origins w → HasNoCircle w → FindsWires l.by_import w.wires
    → named_entities l.asked.items ≡ asked_by_all w 0 (shapes_of (take l.target l.shapes))
