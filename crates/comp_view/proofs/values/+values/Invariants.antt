use Rattle.std.proofs.Common.{◌+◌, ◌*◌, ◌≡◌, map, take}
use Rattle.comp_table.specs.Rows.{case_plain, field_plain, value_plain}
use Rattle.comp_table.specs.Trees.{tree_at}
use Rattle.comp_view.proofs.values.+values.Given as goal

abbrev pub decreases-build_value : goal.decreases-build_value
decreases-build_value l = 4 * l.levels

abbrev pub decreases-build_boxed : goal.decreases-build_boxed
decreases-build_boxed l = 4 * l.levels + 1

abbrev pub decreases-build_held : goal.decreases-build_held
decreases-build_held l = 4 * l.levels + 1

abbrev pub decreases-build_field : goal.decreases-build_field
decreases-build_field l = 4 * l.levels + 1

abbrev pub decreases-build_values : goal.decreases-build_values
decreases-build_values l = 4 * l.levels + 1

abbrev pub decreases-build_case : goal.decreases-build_case
decreases-build_case l = 4 * l.levels + 2

abbrev pub decreases-build_fields : goal.decreases-build_fields
decreases-build_fields l = 4 * l.levels + 2

abbrev pub decreases-build_cases : goal.decreases-build_cases
decreases-build_cases l = 4 * l.levels + 3

abbrev pub invariant-build_values-loop-part : goal.invariant-build_values-loop-part
invariant-build_values-loop-part l = map value_plain l.values.items ≡ map (tree_at l.table) (take l.part-index l.parts)

abbrev pub invariant-build_fields-loop-part : goal.invariant-build_fields-loop-part
invariant-build_fields-loop-part l = map field_plain l.fields.items ≡ map (tree_at l.table) (take l.part-index l.parts)

abbrev pub invariant-build_cases-loop-part : goal.invariant-build_cases-loop-part
invariant-build_cases-loop-part l = map case_plain l.cases.items ≡ map (tree_at l.table) (take l.part-index l.parts)
