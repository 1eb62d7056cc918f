use Rattle.std.proofs.Common.{◌≡◌, ◌++◌, drop, map, flat_map}
use Rattle.comp_entity.specs.Names.{in_cases, in_values}
use Rattle.comp_entity.specs.Views.{cases_of, value_tree, values_of}
use Rattle.compose_left.specs.Renaming.{case_tree, field_tree}
use Rattle.compose_needs.specs.Mentioned.{outwards}
use Rattle.compose_needs.specs.Payloads.{in_field}
use Rattle.compose_needs.proofs.values.+values.Given as goal

abbrev pub invariant-push_parts-loop-part : goal.invariant-push_parts-loop-part
invariant-push_parts-loop-part l =
    l.things.items ++ outwards (in_values l.depth (values_of (map value_tree (drop l.part-index l.parts))))
    ≡ l.fn.things.items ++ outwards (in_values l.depth (values_of (map value_tree l.parts)))

abbrev pub invariant-push_fields-loop-field : goal.invariant-push_fields-loop-field
invariant-push_fields-loop-field l =
    l.things.items ++ outwards (flat_map (in_field l.depth) (map field_tree (drop l.field-index l.fields)))
    ≡ l.fn.things.items ++ outwards (flat_map (in_field l.depth) (map field_tree l.fields))

abbrev pub invariant-push_cases-loop-case : goal.invariant-push_cases-loop-case
invariant-push_cases-loop-case l =
    l.things.items ++ outwards (in_cases l.depth (cases_of (map case_tree (drop l.case-index l.cases))))
    ≡ l.fn.things.items ++ outwards (in_cases l.depth (cases_of (map case_tree l.cases)))
