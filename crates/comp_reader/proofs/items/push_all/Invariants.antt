use Rattle.std.proofs.Common.{◌≡◌, ◌++◌, map}
use Rattle.comp_format.specs.Items.{item_tree}
use Rattle.comp_reader.proofs.items.push_all.Given as goal

abbrev pub invariant-loop-value : goal.invariant-loop-value
invariant-loop-value g l = map item_tree l.items.items ≡ map item_tree l.fn.items.items ++ map g.T.Listed.item (map g.T.Listed.tree l.yielded)
