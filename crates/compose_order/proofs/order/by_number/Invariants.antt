use Rattle.std.proofs.Common.{◌≡◌, ◌++◌, length, map, List}
use Rattle.compose_order.specs.declared.left.LeftImport.{LeftImport}
use Rattle.compose_order.specs.Known.{AreThere, HoldsBetween, left_tree}
use Rattle.compose_order.proofs.order.by_number.Given as goal

abbrev pub invariant-loop-import : goal.invariant-loop-import
invariant-loop-import l = (rest : List LeftImport) × (l.left.items ++ rest ≡ l.fn.lefts.items) × AreThere l.slots (map left_tree l.fn.lefts.items) × HoldsBetween l.slots (length l.left.items) (length l.fn.lefts.items)

abbrev pub decreases-loop-import : goal.decreases-loop-import
decreases-loop-import l = length l.left.items
