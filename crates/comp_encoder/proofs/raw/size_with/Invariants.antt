use Rattle.std.proofs.Common.{◌≡◌, ◌+◌, ◌≤◌, map, take}
use Rattle.comp_format.specs.Items.{item_tree}
use Rattle.comp_encoder.specs.Writing.{numbered}
use Rattle.comp_encoder.proofs.raw.size_with.Given as goal

abbrev pub invariant-loop-item : goal.invariant-loop-item
invariant-loop-item l = record {
  counted : l.total ≡ l.fn.size + numbered l.sort (map item_tree (take l.item-index l.items));
  bound : l.total ≤ l.fn.size + l.item-index;
}
