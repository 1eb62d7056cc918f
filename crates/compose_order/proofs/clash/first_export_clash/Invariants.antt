use Rattle.std.proofs.Common.{map, take}
use Rattle.compose_order.specs.Agreed.{AreExportsApart}
use Rattle.compose_order.specs.Known.{left_tree}
use Rattle.compose_order.proofs.clash.first_export_clash.Given as goal

abbrev pub invariant-loop-left : goal.invariant-loop-left
invariant-loop-left l = AreExportsApart (map left_tree (take l.left-index l.lefts))
