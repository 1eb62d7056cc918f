use Rattle.std.proofs.Common.{◌≡◌, take}
use Rattle.comp_entity.specs.Views.{named_entities}
use Rattle.compose_check.specs.Checked.{entities_placed}
use Rattle.compose_left.specs.Numbers.{AreOrigins}
use Rattle.compose_left.specs.Wiring.{HasNoCircle, Wiring}
use Rattle.compose_check.proofs.exports.placed_exports.Given as goal

abbrev pub invariant-loop-export : goal.invariant-loop-export
invariant-loop-export l = (w : Wiring) → AreOrigins l.origins w → HasNoCircle w
    → named_entities l.found.items ≡ entities_placed w l.instance (named_entities (take l.export-index l.exports))
