use Rattle.std.proofs.Common.{◌≡◌, map, take}
use Rattle.comp_format.specs.Items.{item_tree}
use Rattle.warg_compose.specs.Left.{open_names}
use Rattle.warg_compose.proofs.lock.names_among.Given as goal

abbrev pub invariant-loop-item : goal.invariant-loop-item
invariant-loop-item l = l.names.items ≡ open_names (map item_tree (take l.item-index l.items))
