use Rattle.std.proofs.Common.{◌≡◌, map, take}
use Rattle.comp_table.specs.Rows.{core_value_plain}
use Rattle.comp_table.specs.Trees.{tree_at}
use Rattle.comp_view.proofs.modules.build_core_values.Given as goal

abbrev pub invariant-loop-part : goal.invariant-loop-part
invariant-loop-part l = map core_value_plain l.values.items ≡ map (tree_at l.table) (take l.part-index l.part-items)
