use Rattle.std.proofs.Common.{rules, subst}
use Rattle.std.specs.Prelude.{ℕ, List, Option}
use Rattle.std.specs.List.{All}
use Rattle.std.proofs.lemmas.List.{take_all}
use Rattle.std.proofs.lemmas.List.Elements.{All-more}
use Rattle.comp_entity.specs.declared.entity.ValueShape.{ValueShape}
use Rattle.comp_entity.specs.Views.{value_tree}
use Rattle.compose_writing.specs.Conditions.{KeepsValue, KeepsPayload}
use Rattle.test_types.specs.Form.{held_tree}
use Rattle.test_types.proofs.FormLaws.{case_none, case_some}
use Rattle.test_types.proofs.form.+values.Goals.{keep_cases-in-None, keep_cases-in-Some+else-not-keeps_value}
use Rattle.test_types.proofs.form.+values.Goals as goal

pub keep_parts-loop-part-preserved : goal.keep_parts-loop-part-preserved
keep_parts-loop-part-preserved t c =
    let P = λ (t : ValueShape). KeepsValue (value_tree t) in
    All-more P c.args.parts.now c.loop-part.part-index c.part-item.result c.loop-part-test.true c.loop-part.invariant (subst P c.part-item.is (search rules))

pub keep_parts-returns : goal.keep_parts-returns
keep_parts-returns t c = λ u. subst (All (λ (t : ValueShape). KeepsValue (value_tree t))) (take_all c.loop-part.part-index c.args.parts.now c.loop-part-test.false) c.loop-part.invariant

pub keep_fields-loop-field-preserved : goal.keep_fields-loop-field-preserved
keep_fields-loop-field-preserved t c =
    let P = λ (f : List ℕ × ValueShape). KeepsValue (value_tree f.1) in
    All-more P c.args.fields.now c.loop-field.field-index c.field-item.result c.loop-field-test.true c.loop-field.invariant (subst P c.field-item.is (search rules))

pub keep_fields-returns : goal.keep_fields-returns
keep_fields-returns t c = λ u. subst (All (λ (f : List ℕ × ValueShape). KeepsValue (value_tree f.1))) (take_all c.loop-field.field-index c.args.fields.now c.loop-field-test.false) c.loop-field.invariant

pub keep_cases-returns : goal.keep_cases-returns
keep_cases-returns t c = λ u. subst (All (λ (c : List ℕ × Option ValueShape). KeepsPayload (held_tree c.1))) (take_all c.loop-case.case-index c.args.cases.now c.loop-case-test.false) c.loop-case.invariant

pub keep_cases-loop-case-preserved : goal.keep_cases-loop-case-preserved
keep_cases-loop-case-preserved t c =
    let P = λ (c : List ℕ × Option ValueShape). KeepsPayload (held_tree c.1) in
    let item = c.case-item.result in
    let kept : KeepsPayload (held_tree item.1) = elim c.match-case.branch [
      | keep_cases-in-None w ↦ case_none item w.in-None.is
      | keep_cases-in-Some+else-not-keeps_value w ↦ case_some item w.in-Some.held w.in-Some.is (w.keeps_value.ensures (search rules))
    ] in
    All-more P c.args.cases.now c.loop-case.case-index item c.loop-case-test.true c.loop-case.invariant (subst P c.case-item.is kept)
