use Rattle.std.proofs.Common.{map, take}
use Rattle.compose_order.specs.Known.{left_tree}
use Rattle.compose_encode.specs.Refusing.{HoldsNames}
use Rattle.compose_encode.proofs.refusing.names_of.Given as goal

abbrev pub invariant-loop-left : goal.invariant-loop-left
invariant-loop-left l = HoldsNames l.names (map left_tree (take l.left-index l.lefts))
