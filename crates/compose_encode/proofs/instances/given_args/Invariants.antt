use Rattle.std.proofs.Common.{◌≡◌, map, take}
use Rattle.compose_check.specs.Composition.{composition_tree}
use Rattle.compose_image.specs.Instances.{given_arg}
use Rattle.compose_encode.specs.Held.{Holds, Items, WrittenItems}
use Rattle.compose_encode.proofs.instances.given_args.Given as goal

abbrev pub invariant-loop-wire : goal.invariant-loop-wire
invariant-loop-wire l = (imports : Items) (w : WrittenItems) → Holds imports l.output w → l.args.items ≡ map (λ wire. given_arg (composition_tree l.composition) w wire wire.export) (take l.wire-index l.wires)
