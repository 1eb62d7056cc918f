use Rattle.std.proofs.Common.{◌≡◌, ◌++◌, map}
use Rattle.compose_order.specs.Known.{left_tree, merged_left}
use Rattle.compose_order.proofs.left.left_imports.Given as goal

abbrev pub invariant-loop-import : goal.invariant-loop-import
invariant-loop-import l = map left_tree l.lefts.items ++ map merged_left l.import-iterator.rest.items ≡ map merged_left l.fn.list.items
