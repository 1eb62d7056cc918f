use Rattle.std.proofs.Common.{◌≡◌, map, take}
use Rattle.comp_entity.specs.Names.{value_by}
use Rattle.comp_entity.specs.Views.{value_tree}
use Rattle.compose_left.specs.Renaming.{change_of, field_tree, field_by, case_tree, case_by}
use Rattle.compose_left.proofs.renaming.+values.Given as goal

abbrev pub invariant-parts_in-loop-part : goal.invariant-parts_in-loop-part
invariant-parts_in-loop-part l = map value_tree l.copies.items ≡ map (value_by (change_of l.renaming) l.depth) (map value_tree (take l.part-index l.parts))

abbrev pub invariant-fields_in-loop-field : goal.invariant-fields_in-loop-field
invariant-fields_in-loop-field l = map field_tree l.copies.items ≡ map (field_by (change_of l.renaming) l.depth) (map field_tree (take l.field-index l.fields))

abbrev pub invariant-cases_in-loop-case : goal.invariant-cases_in-loop-case
invariant-cases_in-loop-case l = map case_tree l.copies.items ≡ map (case_by (change_of l.renaming) l.depth) (map case_tree (take l.case-index l.cases))
