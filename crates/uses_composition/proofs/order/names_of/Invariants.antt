use Rattle.std.proofs.Common.{◌≡◌, map, take}
use Rattle.compose_order.specs.Agreed.{name_of}
use Rattle.compose_order.specs.Known.{left_tree}
use Rattle.uses_composition.proofs.order.names_of.Given as goal

abbrev pub invariant-loop-left : goal.invariant-loop-left
invariant-loop-left l = l.names.items ≡ map name_of (map left_tree (take l.left-index l.lefts))
