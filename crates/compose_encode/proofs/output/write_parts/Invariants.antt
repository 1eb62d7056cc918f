use Rattle.std.proofs.Common.{take}
use Rattle.std.specs.List.{fold}
use Rattle.compose_check.specs.Composition.{composition_tree}
use Rattle.compose_encode.specs.Held.{Holds, Items, WrittenItems}
use Rattle.compose_encode.proofs.HeldLaws.{wire_step}
use Rattle.compose_encode.proofs.output.write_parts.Given as goal

abbrev pub invariant-loop-wire : goal.invariant-loop-wire
invariant-loop-wire l = (imports : Items) (w : WrittenItems) → Holds imports l.initial.output w → Holds imports l.output (fold (wire_step (composition_tree l.composition)) w (take l.wire-index l.wires))
