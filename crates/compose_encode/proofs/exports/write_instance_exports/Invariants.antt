use Rattle.std.proofs.Common.{take}
use Rattle.std.specs.List.{fold}
use Rattle.compose_check.specs.Composition.{composition_tree}
use Rattle.compose_encode.specs.Held.{Holds, Items, WrittenItems}
use Rattle.compose_image.specs.Instances.{parts_of, with_export}
use Rattle.compose_encode.proofs.exports.write_instance_exports.Given as goal

abbrev pub invariant-loop-export : goal.invariant-loop-export
invariant-loop-export l = (imports : Items) (w : WrittenItems) → Holds imports l.initial.output w
    → Holds imports l.output (fold (with_export (composition_tree l.composition)) w (take l.export (parts_of (composition_tree l.composition) l.instance)))
