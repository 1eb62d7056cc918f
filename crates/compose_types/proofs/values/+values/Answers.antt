use Rattle.std.proofs.Common.{rules, arith, ◌+◌, ◌++◌, ◌∷◌, [], Some, None, drop, sym, ap, ◌∙◌}
use Rattle.comp_entity.specs.declared.entity.ValueShape.{the_lemmas}
use Rattle.compose_types.specs.Scopes.{scopes}
use Rattle.compose_writing.specs.Scopes.{wrote_as}
use Rattle.compose_types.specs.Values.{write_each, write_part, write_field, write_case}
use Rattle.compose_types.proofs.ValueLaws.{case_none, case_some, then_each, each_begin, each_end, each_step, tuple_keeps, record_keeps, variant_keeps, tuple_written, record_written, variant_written, tuple_form, record_form, variant_form}
use Rattle.compose_types.proofs.values.+values.Goals.{cases_of-in-None+in_ok-push-in-None, cases_of-in-Some+in_ok-ty-in-Some+in_ok-push-in-Some}
use Rattle.compose_types.proofs.ValueLargestLaws.{borrow_refused, boxed_refused, case_grows, case_refused, each_refused, err_refused, field_grows, field_refused, list_refused, ok_refused, option_refused, own_refused, own_added_refused, own_type_refused, part_grows, part_refused, place_refused, record_refused, tuple_refused, variant_refused}
use Rattle.compose_types.proofs.RefusalLaws.{told}
use Rattle.compose_types.proofs.ValuePossibleLaws.{borrow_possible, boxed_keeps, boxed_possible, case_possible, err_possible, field_possible, list_keeps, list_possible, ok_possible, option_keeps, option_possible, own_possible, part_possible, place_possible, record_possible, result_keeps, tuple_possible, unnamed_possible, variant_possible}
use Rattle.comp_entity.specs.Views.{value_tree}
use Rattle.compose_types.proofs.values.+values.Goals as goal

pub defined_of-parts_of-requires : goal.defined_of-parts_of-requires
defined_of-parts_of-requires t c =
    (search (rules, the_lemmas), (rw c.deref.ensures.value (tuple_keeps c.args.ty.now c.in-TupleOf.parts c.in-TupleOf.is c.requires.form), rw c.deref.ensures.value (tuple_possible c.args.ty.now (scopes c.args.state.now) c.requires.possible c.in-TupleOf.parts c.in-TupleOf.is)))

pub defined_of-fields_of-requires : goal.defined_of-fields_of-requires
defined_of-fields_of-requires t c =
    (search (rules, the_lemmas), (rw c.deref-in-RecordOf.ensures.value (record_keeps c.args.ty.now c.in-RecordOf.field-0 c.in-RecordOf.fields c.in-RecordOf.is c.requires.form), rw c.deref-in-RecordOf.ensures.value (record_possible c.args.ty.now (scopes c.args.state.now) c.requires.possible c.in-RecordOf.field-0 c.in-RecordOf.fields c.in-RecordOf.is)))

pub defined_of-cases_of-requires : goal.defined_of-cases_of-requires
defined_of-cases_of-requires t c =
    (search (rules, the_lemmas), (rw c.deref-in-VariantOf.ensures.value (variant_keeps c.args.ty.now c.in-VariantOf.field-0 c.in-VariantOf.cases c.in-VariantOf.is c.requires.form), rw c.deref-in-VariantOf.ensures.value (variant_possible c.args.ty.now (scopes c.args.state.now) c.requires.possible c.in-VariantOf.field-0 c.in-VariantOf.cases c.in-VariantOf.is)))

pub defined_of-value_of-requires : goal.defined_of-value_of-requires
defined_of-value_of-requires t c =
    (search (rules, the_lemmas), (rw c.deref-in-ListOf.ensures (list_keeps c.args.ty.now c.in-ListOf.item c.in-ListOf.is c.requires.form), rw c.deref-in-ListOf.ensures (list_possible c.args.ty.now (scopes c.args.state.now) c.requires.possible c.in-ListOf.item c.in-ListOf.is)))

pub defined_of-value_of-requires-in-OptionOf : goal.defined_of-value_of-requires-in-OptionOf
defined_of-value_of-requires-in-OptionOf t c =
    (search (rules, the_lemmas), (rw c.deref-in-OptionOf.ensures (option_keeps c.args.ty.now c.in-OptionOf.item c.in-OptionOf.is c.requires.form), rw c.deref-in-OptionOf.ensures (option_possible c.args.ty.now (scopes c.args.state.now) c.requires.possible c.in-OptionOf.item c.in-OptionOf.is)))

pub defined_of-boxed_of-requires : goal.defined_of-boxed_of-requires
defined_of-boxed_of-requires t c =
    (search (rules, the_lemmas), ((result_keeps c.args.ty.now c.in-ResultOf.ok c.in-ResultOf.err c.in-ResultOf.is c.requires.form).0, ok_possible c.args.ty.now (scopes c.args.state.now) c.requires.possible c.in-ResultOf.ok c.in-ResultOf.err c.in-ResultOf.is))

pub defined_of-boxed_of-requires-in-ResultOf : goal.defined_of-boxed_of-requires-in-ResultOf
defined_of-boxed_of-requires-in-ResultOf t c = (
  search (rules, the_lemmas),
  (
    (result_keeps c.args.ty.now c.in-ResultOf.ok c.in-ResultOf.err c.in-ResultOf.is c.requires.form).1,
    err_possible c.args.ty.now (scopes c.args.state.now) c.requires.possible c.in-ResultOf.ok c.in-ResultOf.err (scopes c.boxed_of.new.state) c.in_ok-ok-in-ResultOf.ok c.in-ResultOf.is c.in_ok-ok-in-ResultOf.ensures.written,
  ),
)

pub defined_of-resource_index-requires : goal.defined_of-resource_index-requires
defined_of-resource_index-requires t c = own_possible c.args.ty.now (scopes c.args.state.now) c.requires.possible c.in-Own.resource c.in-Own.is

pub defined_of-resource_index-requires-in-Borrow : goal.defined_of-resource_index-requires-in-Borrow
defined_of-resource_index-requires-in-Borrow t c = borrow_possible c.args.ty.now (scopes c.args.state.now) c.requires.possible c.in-Borrow.resource c.in-Borrow.is

pub value_of-place_index-requires : goal.value_of-place_index-requires
value_of-place_index-requires t c =
    place_possible (value_tree c.args.ty.now) (scopes c.args.state.now) (sym c.in_default.is ∙ c.primitive_of.ensures) c.requires.possible c.in-Some-place_of.place (sym c.in-Some-place_of.is ∙ c.place_of.ensures)

pub value_of-defined_of-requires : goal.value_of-defined_of-requires
value_of-defined_of-requires t c =
    (search (rules, the_lemmas), (c.requires.form, unnamed_possible (value_tree c.args.ty.now) (scopes c.args.state.now) (sym c.in_default.is ∙ c.primitive_of.ensures) c.requires.possible (sym c.in-None.is ∙ c.place_of.ensures)))

pub boxed_of-value_of-requires : goal.boxed_of-value_of-requires
boxed_of-value_of-requires t c =
    (search (rules, the_lemmas), (rw c.deref.ensures (boxed_keeps c.args.held.now c.in-Some.ty c.in-Some.is c.requires.form), rw c.deref.ensures (boxed_possible c.args.held.now c.in-Some.ty (scopes c.args.state.now) c.in-Some.is c.requires.possible)))

pub parts_of-value_of-requires : goal.parts_of-value_of-requires
parts_of-value_of-requires t c =
    let i = c.loop-part.part-index in
    let part = c.part-item.result in (
      grind (arith, the_lemmas),
      (
        rw (sym c.part-item.is) at (c.requires.form i part c.loop-part-test.true),
        part_possible i (scopes c.loop-part.state) c.args.parts.now part c.loop-part.written (write_each write_part c.args.parts.now (scopes c.args.state.now)) c.loop-part-test.true c.part-item.is c.loop-part.invariant c.requires.possible,
      ),
    )

pub fields_of-value_of-requires : goal.fields_of-value_of-requires
fields_of-value_of-requires t c =
    let i = c.loop-field.field-index in
    let field = c.field-item.result in (
      grind (arith, the_lemmas),
      (
        rw (sym c.field-item.is) at (c.requires.form i field c.loop-field-test.true),
        field_possible i (scopes c.loop-field.state) c.args.fields.now field c.loop-field.written (write_each write_field c.args.fields.now (scopes c.args.state.now)) c.loop-field-test.true c.field-item.is c.loop-field.invariant c.requires.possible,
      ),
    )

pub defined_of-returns-in_ok-parts_of-in-TupleOf-clause-written : goal.defined_of-returns-in_ok-parts_of-in-TupleOf-clause-written
defined_of-returns-in_ok-parts_of-in-TupleOf-clause-written t c =
    tuple_written c.args.ty.now c.in-TupleOf.parts (scopes c.args.state.now) (scopes c.parts_of.new.state) c.in_ok-parts_of-in-TupleOf.field-0 c.in-TupleOf.is (rw (sym c.deref.ensures.value) c.in_ok-parts_of-in-TupleOf.ensures.written)

pub defined_of-returns-in_ok-parts_of-in-TupleOf-clause-form : goal.defined_of-returns-in_ok-parts_of-in-TupleOf-clause-form
defined_of-returns-in_ok-parts_of-in-TupleOf-clause-form t c =
    tuple_form c.args.ty.now c.in-TupleOf.parts (scopes c.args.state.now) (scopes c.parts_of.new.state) c.in_ok-parts_of-in-TupleOf.field-0 c.in-TupleOf.is c.requires.form (rw (sym c.deref.ensures.value) c.in_ok-parts_of-in-TupleOf.ensures.written)

pub defined_of-returns-in_ok-fields_of-in-RecordOf-clause-written : goal.defined_of-returns-in_ok-fields_of-in-RecordOf-clause-written
defined_of-returns-in_ok-fields_of-in-RecordOf-clause-written t c =
    record_written c.args.ty.now c.in-RecordOf.field-0 c.in-RecordOf.fields (scopes c.args.state.now) (scopes c.fields_of.new.state) c.in_ok-fields_of-in-RecordOf.field-0 c.in-RecordOf.is (rw (sym c.deref-in-RecordOf.ensures.value) c.in_ok-fields_of-in-RecordOf.ensures.written)

pub defined_of-returns-in_ok-fields_of-in-RecordOf-clause-form : goal.defined_of-returns-in_ok-fields_of-in-RecordOf-clause-form
defined_of-returns-in_ok-fields_of-in-RecordOf-clause-form t c =
    record_form c.args.ty.now c.in-RecordOf.field-0 c.in-RecordOf.fields (scopes c.args.state.now) (scopes c.fields_of.new.state) c.in_ok-fields_of-in-RecordOf.field-0 c.in-RecordOf.is c.requires.form (rw (sym c.deref-in-RecordOf.ensures.value) c.in_ok-fields_of-in-RecordOf.ensures.written)

pub defined_of-returns-in_ok-cases_of-in-VariantOf-clause-written : goal.defined_of-returns-in_ok-cases_of-in-VariantOf-clause-written
defined_of-returns-in_ok-cases_of-in-VariantOf-clause-written t c =
    variant_written c.args.ty.now c.in-VariantOf.field-0 c.in-VariantOf.cases (scopes c.args.state.now) (scopes c.cases_of.new.state) c.in_ok-cases_of-in-VariantOf.field-0 c.in-VariantOf.is (rw (sym c.deref-in-VariantOf.ensures.value) c.in_ok-cases_of-in-VariantOf.ensures.written)

pub defined_of-returns-in_ok-cases_of-in-VariantOf-clause-form : goal.defined_of-returns-in_ok-cases_of-in-VariantOf-clause-form
defined_of-returns-in_ok-cases_of-in-VariantOf-clause-form t c =
    variant_form c.args.ty.now c.in-VariantOf.field-0 c.in-VariantOf.cases (scopes c.args.state.now) (scopes c.cases_of.new.state) c.in_ok-cases_of-in-VariantOf.field-0 c.in-VariantOf.is c.requires.form (rw (sym c.deref-in-VariantOf.ensures.value) c.in_ok-cases_of-in-VariantOf.ensures.written)

pub parts_of-loop-part-init : goal.parts_of-loop-part-init
parts_of-loop-part-init t c = rw c.new-written.ensures (each_begin write_part c.args.parts.now (scopes c.args.state.now))

pub parts_of-loop-part-preserved : goal.parts_of-loop-part-preserved
parts_of-loop-part-preserved t c =
    let i = c.loop-part.part-index in
    ap (λ done. then_each done (write_each write_part (drop (i + 1) c.args.parts.now) (scopes c.value_of.new.state))) (c.in_ok-push.ensures.added)
    ∙ each_step write_part c.args.parts.now i c.part-item.result c.loop-part.written (scopes c.loop-part.state) (scopes c.value_of.new.state) c.in_ok-ty.ty c.loop-part-test.true c.part-item.is c.in_ok-ty.ensures.written
    ∙ c.loop-part.invariant

pub parts_of-returns-clause-written : goal.parts_of-returns-clause-written
parts_of-returns-clause-written t c = each_end write_part c.args.parts.now c.loop-part.part-index c.loop-part.written (scopes c.loop-part.state) _ c.loop-part-test.false c.loop-part.invariant

pub fields_of-loop-field-init : goal.fields_of-loop-field-init
fields_of-loop-field-init t c = rw c.new-written.ensures (each_begin write_field c.args.fields.now (scopes c.args.state.now))

pub fields_of-loop-field-preserved : goal.fields_of-loop-field-preserved
fields_of-loop-field-preserved t c =
    let i = c.loop-field.field-index in
    ap (λ done. then_each done (write_each write_field (drop (i + 1) c.args.fields.now) (scopes c.value_of.new.state))) (c.in_ok-push.ensures.added ∙ ap (λ label. c.loop-field.written ++ (label, c.in_ok-ty.ty) ∷ []) c.in_ok-label.ensures)
    ∙ each_step write_field c.args.fields.now i c.field-item.result c.loop-field.written (scopes c.loop-field.state) (scopes c.value_of.new.state) (c.field-item.result.0, c.in_ok-ty.ty) c.loop-field-test.true c.field-item.is (ap (wrote_as (λ t. (c.field-item.result.0, t))) c.in_ok-ty.ensures.written)
    ∙ c.loop-field.invariant

pub fields_of-returns-clause-written : goal.fields_of-returns-clause-written
fields_of-returns-clause-written t c = each_end write_field c.args.fields.now c.loop-field.field-index c.loop-field.written (scopes c.loop-field.state) _ c.loop-field-test.false c.loop-field.invariant

pub cases_of-loop-case-init : goal.cases_of-loop-case-init
cases_of-loop-case-init t c = rw c.new-written.ensures (each_begin write_case c.args.cases.now (scopes c.args.state.now))

pub cases_of-returns-clause-written : goal.cases_of-returns-clause-written
cases_of-returns-clause-written t c = each_end write_case c.args.cases.now c.loop-case.case-index c.loop-case.written (scopes c.loop-case.state) _ c.loop-case-test.false c.loop-case.invariant

pub cases_of-loop-case-preserved : goal.cases_of-loop-case-preserved
cases_of-loop-case-preserved t c =
    let i = c.loop-case.case-index in
    let item = c.case-item.result in
    let before = scopes c.loop-case.state in
    elim c.match-case.branch [
      | cases_of-in-None+in_ok-push-in-None w ↦
          rw (w.written-is, w.state-is) (ap (λ done. then_each done (write_each write_case (drop (i + 1) c.args.cases.now) before)) (w.in_ok-push-in-None.ensures.added ∙ ap (λ label. c.loop-case.written ++ (label, None) ∷ []) c.in_ok-label.ensures)
          ∙ each_step write_case c.args.cases.now i item c.loop-case.written before before (item.0, None) c.loop-case-test.true c.case-item.is (case_none item before w.in-None.is) ∙ c.loop-case.invariant)
      | cases_of-in-Some+in_ok-ty-in-Some+in_ok-push-in-Some w ↦
          rw (w.written-is, w.state-is) (ap (λ done. then_each done (write_each write_case (drop (i + 1) c.args.cases.now) (scopes w.value_of.new.state))) (w.in_ok-push-in-Some.ensures.added ∙ ap (λ label. c.loop-case.written ++ (label, Some w.in_ok-ty-in-Some.ty) ∷ []) c.in_ok-label.ensures)
          ∙ each_step write_case c.args.cases.now i item c.loop-case.written before (scopes w.value_of.new.state) (item.0, Some w.in_ok-ty-in-Some.ty) c.loop-case-test.true c.case-item.is (case_some item w.in-Some.held before (scopes w.value_of.new.state) w.in_ok-ty-in-Some.ty w.in-Some.is w.in_ok-ty-in-Some.ensures.written) ∙ c.loop-case.invariant)
    ]

pub cases_of-value_of-requires : goal.cases_of-value_of-requires
cases_of-value_of-requires t c =
    let i = c.loop-case.case-index in
    let item = c.case-item.result in (
      grind (arith, the_lemmas),
      (
        rw (sym c.case-item.is, c.in-Some.is) at (c.requires.form i item c.loop-case-test.true),
        case_possible i (scopes c.loop-case.state) c.args.cases.now item c.in-Some.held c.loop-case.written (write_each write_case c.args.cases.now (scopes c.args.state.now)) c.loop-case-test.true c.case-item.is c.in-Some.is c.loop-case.invariant c.requires.possible,
      ),
    )

pub boxed_of-returns-in_err-ty-in-Some-clause-among : goal.boxed_of-returns-in_err-ty-in-Some-clause-among
boxed_of-returns-in_err-ty-in-Some-clause-among t c =
    λ n e. boxed_refused n c.args.held.now c.in-Some.ty (scopes c.args.state.now) c.in-Some.is (rw c.deref.ensures at (c.in_err-ty-in-Some.ensures.among n (told c.from_residual.result _ n c.from_residual.ensures.1 e)))

pub parts_of-returns-in_err-ty-clause-among : goal.parts_of-returns-in_err-ty-clause-among
parts_of-returns-in_err-ty-clause-among t c = λ n e.
    each_refused n write_part part_grows c.args.parts.now c.loop-part.part-index c.part-item.result c.loop-part.written (scopes c.loop-part.state) _ c.loop-part-test.true c.part-item.is c.loop-part.invariant
    (c.in_err-ty.ensures.among n (told c.from_residual.result _ n c.from_residual.ensures.1 e))

pub fields_of-returns-in_err-ty-clause-among : goal.fields_of-returns-in_err-ty-clause-among
fields_of-returns-in_err-ty-clause-among t c = λ n e.
    each_refused n write_field field_grows c.args.fields.now c.loop-field.field-index c.field-item.result c.loop-field.written (scopes c.loop-field.state) _ c.loop-field-test.true c.field-item.is c.loop-field.invariant
    (field_refused n c.field-item.result (scopes c.loop-field.state) (c.in_err-ty.ensures.among n (told c.from_residual.result _ n c.from_residual.ensures.1 e)))

pub cases_of-returns-in_err-ty-in-Some-clause-among : goal.cases_of-returns-in_err-ty-in-Some-clause-among
cases_of-returns-in_err-ty-in-Some-clause-among t c = λ n e.
    each_refused n write_case case_grows c.args.cases.now c.loop-case.case-index c.case-item.result c.loop-case.written (scopes c.loop-case.state) _ c.loop-case-test.true c.case-item.is c.loop-case.invariant
    (case_refused n c.case-item.result c.in-Some.held (scopes c.loop-case.state) c.in-Some.is (c.in_err-ty-in-Some.ensures.among n (told c.from_residual-in_err-ty-in-Some.result _ n c.from_residual-in_err-ty-in-Some.ensures.1 e)))

pub defined_of-returns-in_err-parts_of-in-TupleOf-clause-among : goal.defined_of-returns-in_err-parts_of-in-TupleOf-clause-among
defined_of-returns-in_err-parts_of-in-TupleOf-clause-among t c = λ n e.
    tuple_refused n c.args.ty.now (scopes c.args.state.now) c.in-TupleOf.parts c.in-TupleOf.is (rw c.deref.ensures.value at (c.in_err-parts_of-in-TupleOf.ensures.among n (told c.from_residual.result _ n c.from_residual.ensures.1 e)))

pub defined_of-returns-in_err-fields_of-in-RecordOf-clause-among : goal.defined_of-returns-in_err-fields_of-in-RecordOf-clause-among
defined_of-returns-in_err-fields_of-in-RecordOf-clause-among t c = λ n e.
    record_refused n c.args.ty.now (scopes c.args.state.now) c.in-RecordOf.field-0 c.in-RecordOf.fields c.in-RecordOf.is (rw c.deref-in-RecordOf.ensures.value at (c.in_err-fields_of-in-RecordOf.ensures.among n (told c.from_residual-in_err-fields_of-in-RecordOf.result _ n c.from_residual-in_err-fields_of-in-RecordOf.ensures.1 e)))

pub defined_of-returns-in_err-cases_of-in-VariantOf-clause-among : goal.defined_of-returns-in_err-cases_of-in-VariantOf-clause-among
defined_of-returns-in_err-cases_of-in-VariantOf-clause-among t c = λ n e.
    variant_refused n c.args.ty.now (scopes c.args.state.now) c.in-VariantOf.field-0 c.in-VariantOf.cases c.in-VariantOf.is (rw c.deref-in-VariantOf.ensures.value at (c.in_err-cases_of-in-VariantOf.ensures.among n (told c.from_residual-in_err-cases_of-in-VariantOf.result _ n c.from_residual-in_err-cases_of-in-VariantOf.ensures.1 e)))

pub defined_of-returns-in_err-value_of-in-ListOf-clause-among : goal.defined_of-returns-in_err-value_of-in-ListOf-clause-among
defined_of-returns-in_err-value_of-in-ListOf-clause-among t c = λ n e.
    list_refused n c.args.ty.now (scopes c.args.state.now) c.in-ListOf.item c.in-ListOf.is (rw c.deref-in-ListOf.ensures at (c.in_err-value_of-in-ListOf.ensures.among n (told c.from_residual-in_err-value_of-in-ListOf.result _ n c.from_residual-in_err-value_of-in-ListOf.ensures.1 e)))

pub defined_of-returns-in_err-value_of-in-OptionOf-clause-among : goal.defined_of-returns-in_err-value_of-in-OptionOf-clause-among
defined_of-returns-in_err-value_of-in-OptionOf-clause-among t c = λ n e.
    option_refused n c.args.ty.now (scopes c.args.state.now) c.in-OptionOf.item c.in-OptionOf.is (rw c.deref-in-OptionOf.ensures at (c.in_err-value_of-in-OptionOf.ensures.among n (told c.from_residual-in_err-value_of-in-OptionOf.result _ n c.from_residual-in_err-value_of-in-OptionOf.ensures.1 e)))

pub defined_of-returns-in_err-ok-in-ResultOf-clause-among : goal.defined_of-returns-in_err-ok-in-ResultOf-clause-among
defined_of-returns-in_err-ok-in-ResultOf-clause-among t c = λ n e.
    ok_refused n c.args.ty.now (scopes c.args.state.now) c.in-ResultOf.ok c.in-ResultOf.err c.in-ResultOf.is (c.in_err-ok-in-ResultOf.ensures.among n (told c.from_residual-in_err-ok-in-ResultOf.result _ n c.from_residual-in_err-ok-in-ResultOf.ensures.1 e))

pub defined_of-returns-in_err-err-in-ResultOf-clause-among : goal.defined_of-returns-in_err-err-in-ResultOf-clause-among
defined_of-returns-in_err-err-in-ResultOf-clause-among t c = λ n e.
    err_refused n c.args.ty.now (scopes c.args.state.now) c.in-ResultOf.ok c.in-ResultOf.err (scopes c.boxed_of.new.state) c.in_ok-ok-in-ResultOf.ok c.in-ResultOf.is c.in_ok-ok-in-ResultOf.ensures.written
    (c.in_err-err-in-ResultOf.ensures.among n (told c.from_residual-in_err-err-in-ResultOf.result _ n c.from_residual-in_err-err-in-ResultOf.ensures.1 e))

pub defined_of-returns-in_err-resource_index-in-Own-clause-among : goal.defined_of-returns-in_err-resource_index-in-Own-clause-among
defined_of-returns-in_err-resource_index-in-Own-clause-among t c = λ n e.
    own_refused n c.args.ty.now (scopes c.args.state.now) c.in-Own.resource c.in-Own.is (c.in_err-resource_index-in-Own.ensures.among n (told c.from_residual-in_err-resource_index-in-Own.result _ n c.from_residual-in_err-resource_index-in-Own.ensures.1 e))

pub defined_of-returns-in_err-resource_index-in-Borrow-clause-among : goal.defined_of-returns-in_err-resource_index-in-Borrow-clause-among
defined_of-returns-in_err-resource_index-in-Borrow-clause-among t c = λ n e.
    borrow_refused n c.args.ty.now (scopes c.args.state.now) c.in-Borrow.resource c.in-Borrow.is (c.in_err-resource_index-in-Borrow.ensures.among n (told c.from_residual-in_err-resource_index-in-Borrow.result _ n c.from_residual-in_err-resource_index-in-Borrow.ensures.1 e))

pub value_of-returns-in_err-index-in-Some-place_of-clause-among : goal.value_of-returns-in_err-index-in-Some-place_of-clause-among
value_of-returns-in_err-index-in-Some-place_of-clause-among t c = λ n e.
    place_refused (value_tree c.args.ty.now) (scopes c.args.state.now) (sym c.in_default.is ∙ c.primitive_of.ensures) n c.in-Some-place_of.place (sym c.in-Some-place_of.is ∙ c.place_of.ensures) (c.in_err-index-in-Some-place_of.ensures.among n (told c.from_residual.result _ n c.from_residual.ensures.1 e))

pub value_of-returns-in_err-defined-in-None-clause-among : goal.value_of-returns-in_err-defined-in-None-clause-among
value_of-returns-in_err-defined-in-None-clause-among t c = λ n e.
    part_refused (value_tree c.args.ty.now) (scopes c.args.state.now) (sym c.in_default.is ∙ c.primitive_of.ensures) n (sym c.in-None.is ∙ c.place_of.ensures) (own_type_refused n (value_tree c.args.ty.now) (scopes c.args.state.now) (c.in_err-defined-in-None.ensures.among n (told c.from_residual-in_err-defined-in-None.result _ n c.from_residual-in_err-defined-in-None.ensures.1 e)))

pub value_of-returns-in_err-index-in-None-clause-among : goal.value_of-returns-in_err-index-in-None-clause-among
value_of-returns-in_err-index-in-None-clause-among t c = λ n e.
    part_refused (value_tree c.args.ty.now) (scopes c.args.state.now) (sym c.in_default.is ∙ c.primitive_of.ensures) n (sym c.in-None.is ∙ c.place_of.ensures) (own_added_refused n (value_tree c.args.ty.now) (scopes c.args.state.now) (scopes c.defined_of.new.state) c.in_ok-defined-in-None.defined c.in_ok-defined-in-None.ensures.written (c.in_err-index-in-None.ensures.among n (told c.from_residual-in_err-index-in-None.result _ n c.from_residual-in_err-index-in-None.ensures.1 e)))
