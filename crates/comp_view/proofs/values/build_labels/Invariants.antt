use Rattle.std.proofs.Common.{◌≡◌, map, take}
use Rattle.comp_table.specs.Rows.{label_plain}
use Rattle.comp_table.specs.Trees.{tree_at}
use Rattle.comp_view.proofs.values.build_labels.Given as goal

abbrev pub invariant-loop-part : goal.invariant-loop-part
invariant-loop-part l = map label_plain l.labels.items ≡ map (tree_at l.table) (take l.part-index l.parts)
