use Rattle.std.proofs.Common.{take}
use Rattle.std.specs.List.{All}
use Rattle.std.specs.Prelude.{ℕ, List, Option}
use Rattle.comp_entity.specs.declared.entity.ValueShape.{ValueShape}
use Rattle.comp_entity.specs.Views.{value_tree}
use Rattle.compose_writing.specs.Conditions.{KeepsValue, KeepsPayload}
use Rattle.test_types.specs.Form.{held_tree}
use Rattle.test_types.proofs.form.+values.Given as goal

abbrev pub invariant-keep_parts-loop-part : goal.invariant-keep_parts-loop-part
invariant-keep_parts-loop-part l = All (λ (t : ValueShape). KeepsValue (value_tree t)) (take l.part-index l.parts)

abbrev pub invariant-keep_fields-loop-field : goal.invariant-keep_fields-loop-field
invariant-keep_fields-loop-field l = All (λ (f : List ℕ × ValueShape). KeepsValue (value_tree f.1)) (take l.field-index l.fields)

abbrev pub invariant-keep_cases-loop-case : goal.invariant-keep_cases-loop-case
invariant-keep_cases-loop-case l = All (λ (c : List ℕ × Option ValueShape). KeepsPayload (held_tree c.1)) (take l.case-index l.cases)
