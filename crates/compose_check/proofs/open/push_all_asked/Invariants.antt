use Rattle.std.proofs.Common.{◌≡◌, ◌++◌, take}
use Rattle.comp_entity.specs.Views.{named_entities}
use Rattle.compose_check.specs.Open.{asked_from}
use Rattle.compose_left.specs.Numbers.{AreOrigins}
use Rattle.compose_left.specs.Wired.{FindsWires}
use Rattle.compose_left.specs.Wiring.{HasNoCircle, Wiring}
use Rattle.compose_check.proofs.open.push_all_asked.Given as goal

abbrev pub invariant-loop-import : goal.invariant-loop-import
invariant-loop-import l = (w : Wiring) → AreOrigins l.origins w → HasNoCircle w → FindsWires l.wires w.wires
    → named_entities l.asked.items ≡ named_entities l.fn.asked.items ++ asked_from w l.target 0 (named_entities (take l.import l.imports))
