use Rattle.std.proofs.Common.{take}
use Rattle.std.specs.List.{fold}
use Rattle.compose_check.specs.Composition.{composition_tree}
use Rattle.compose_encode.specs.Held.{Holds, Items, WrittenItems, with_component}
use Rattle.compose_encode.proofs.components.write_each.Given as goal

abbrev pub invariant-loop-number : goal.invariant-loop-number
invariant-loop-number l = (imports : Items) (w : WrittenItems) → Holds imports l.initial.output w → Holds imports l.output (fold (with_component (composition_tree l.composition)) w (take l.number-index l.numbers))
