use Rattle.std.proofs.Common.{Bool, take}
use Rattle.std.specs.List.{fold}
use Rattle.compose_image.specs.Instances.{with_instance}
use Rattle.compose_encode.specs.Held.{Holds, Items, WrittenItems}
use Rattle.compose_encode.specs.Looked.{AreTables, lent_tree}
use Rattle.compose_encode.proofs.instances.write_instances.Given as goal

abbrev pub invariant-loop-instance : goal.invariant-loop-instance
invariant-loop-instance l = (define : Bool) (imports : Items) (w : WrittenItems) → AreTables l.tables define imports → Holds imports l.initial.output w
    → Holds imports l.output (fold (with_instance (lent_tree l.tables) define imports) w (take l.instance-index l.order))
