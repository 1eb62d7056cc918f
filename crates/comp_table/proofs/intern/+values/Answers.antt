use Rattle.std.proofs.Common.{rules, ap, sym, ◌∙◌, map}
use Rattle.comp_table.specs.declared.head.Head.TheVariants as head
use Rattle.comp_table.specs.Plain.{around_two, under_label}
use Rattle.comp_table.specs.Trees.{tree, trees_of, Extends, Stands}
use Rattle.comp_table.specs.Rows.{value_plain, field_plain, case_plain}
use Rattle.comp_table.specs.StandLaws.{grows_not, grows_on, stands_kept, all_none, all_step, number_of_same, same_stands, node_is}
use Rattle.comp_table.proofs.InternLaws.{record_is, variant_is, tuple_is, result_is}
use Rattle.comp_table.proofs.intern.+values.Goals as goal
use Rattle.comp_table.proofs.intern.+values.Goals.{intern_cases-in-Some+in_ok-number-in-Some as some, intern_cases-in-None+in_ok-number-in-None as none}

pub intern_value-returns-in_ok-parts-in-RecordOf-clause-number : goal.intern_value-returns-in_ok-parts-in-RecordOf-clause-number
intern_value-returns-in_ok-parts-in-RecordOf-clause-number t c =
    number_of_same c.node.result c.node.new.table _ _
    (node_is c.intern_fields.new.table (head.RecordOf c.in-RecordOf.place) c.in_ok-parts-in-RecordOf.parts.items _ c.in_ok-parts-in-RecordOf.ensures.numbers
    ∙ ap (λ xs. tree (head.RecordOf c.in-RecordOf.place) (trees_of (map field_plain xs))) c.deref.ensures.value
    ∙ sym (record_is c.in-RecordOf.place c.in-RecordOf.fields) ∙ ap value_plain (sym c.in-RecordOf.is))
    c.node.ensures.number

pub intern_value-returns-in_ok-parts-in-VariantOf-clause-number : goal.intern_value-returns-in_ok-parts-in-VariantOf-clause-number
intern_value-returns-in_ok-parts-in-VariantOf-clause-number t c =
    number_of_same c.node-in-VariantOf.result c.node-in-VariantOf.new.table _ _
    (node_is c.intern_cases.new.table (head.VariantOf c.in-VariantOf.place) c.in_ok-parts-in-VariantOf.parts.items _ c.in_ok-parts-in-VariantOf.ensures.numbers
    ∙ ap (λ xs. tree (head.VariantOf c.in-VariantOf.place) (trees_of (map case_plain xs))) c.deref-in-VariantOf.ensures.value
    ∙ sym (variant_is c.in-VariantOf.place c.in-VariantOf.cases) ∙ ap value_plain (sym c.in-VariantOf.is))
    c.node-in-VariantOf.ensures.number

pub intern_value-returns-in_ok-parts-in-TupleOf-clause-number : goal.intern_value-returns-in_ok-parts-in-TupleOf-clause-number
intern_value-returns-in_ok-parts-in-TupleOf-clause-number t c =
    number_of_same c.node-in-TupleOf.result c.node-in-TupleOf.new.table _ _
    (node_is c.intern_values.new.table head.TupleOf c.in_ok-parts-in-TupleOf.parts.items _ c.in_ok-parts-in-TupleOf.ensures.numbers
    ∙ ap (λ xs. tree head.TupleOf (trees_of (map value_plain xs))) c.deref-in-TupleOf.ensures.value
    ∙ sym (tuple_is c.in-TupleOf.items) ∙ ap value_plain (sym c.in-TupleOf.is))
    c.node-in-TupleOf.ensures.number

pub intern_value-returns-in_ok-second-in-ResultOf-clause-number : goal.intern_value-returns-in_ok-second-in-ResultOf-clause-number
intern_value-returns-in_ok-second-in-ResultOf-clause-number t c =
    let first = stands_kept _ _ c.intern_boxed-in-ResultOf.ensures.extends _ _ c.in_ok-first-in-ResultOf.ensures.number in
    let second = c.in_ok-second-in-ResultOf.ensures.number in
    number_of_same c.around_two.result c.around_two.new.table _ _
    ((λ i. around_two head.ResultOf (first.tree_is i) (second.tree_is i)) ∙ sym (result_is c.in-ResultOf.ok c.in-ResultOf.err) ∙ ap value_plain (sym c.in-ResultOf.is))
    c.around_two.ensures.number

pub intern_values-loop-value-init : goal.intern_values-loop-value-init
intern_values-loop-value-init t c = record { extends = grows_not _; numbers = rw c.new-numbers.ensures.items (all_none _) }

pub intern_values-loop-value-preserved : goal.intern_values-loop-value-preserved
intern_values-loop-value-preserved t c = record {
  extends = grows_on _ _ _ c.loop-value.invariant.extends c.intern_value.ensures.extends;
  numbers = all_step value_plain c.args.values.now c.loop-value.table c.intern_value.new.table c.loop-value.value-index c.value-item.result c.loop-value.numbers.items c.push.new.self.items c.in_ok-number.number (search rules) c.intern_value.ensures.extends c.loop-value.invariant.numbers
      (same_stands c.intern_value.new.table c.in_ok-number.number _ _ (ap value_plain c.value-item.is) c.in_ok-number.ensures.number) c.in_ok-push.ensures.items;
}

pub intern_fields-loop-field-init : goal.intern_fields-loop-field-init
intern_fields-loop-field-init t c = record { extends = grows_not _; numbers = rw c.new-numbers.ensures.items (all_none _) }

pub intern_fields-loop-field-preserved : goal.intern_fields-loop-field-preserved
intern_fields-loop-field-preserved t c = record {
  extends = grows_on _ _ _ c.loop-field.invariant.extends (grows_on _ _ _ c.intern_value.ensures.extends c.under.ensures.extends);
  numbers = all_step field_plain c.args.fields.now c.loop-field.table c.under.new.table c.loop-field.field-index c.field-item.result c.loop-field.numbers.items c.push.new.self.items c.in_ok-number.number (search rules)
      (grows_on _ _ _ c.intern_value.ensures.extends c.under.ensures.extends) c.loop-field.invariant.numbers
      (same_stands c.under.new.table c.in_ok-number.number _ _ (ap (under_label c.field-item.result.0) c.in_ok-part.ensures.number.tree_is ∙ ap field_plain c.field-item.is) c.in_ok-number.ensures.number) c.in_ok-push.ensures.items;
}

pub intern_cases-loop-case-init : goal.intern_cases-loop-case-init
intern_cases-loop-case-init t c = record { extends = grows_not _; numbers = rw c.new-numbers.ensures.items (all_none _) }

pub intern_cases-returns-in_err-push-clause-extends : goal.intern_cases-returns-in_err-push-clause-extends
intern_cases-returns-in_err-push-clause-extends t c = elim c.match-case.branch [
  | some w ↦ rw w.table-is (grows_on _ _ _ c.loop-case.invariant.extends w.intern_case.ensures.extends)
  | none w ↦ rw w.table-is (grows_on _ _ _ c.loop-case.invariant.extends w.intern_empty.ensures.extends)
]

pub intern_cases-loop-case-preserved : goal.intern_cases-loop-case-preserved
intern_cases-loop-case-preserved t c =
    let grown : Extends c.loop-case.table c.match-case.table = elim c.match-case.branch [
      | some w ↦ rw w.table-is w.intern_case.ensures.extends
      | none w ↦ rw w.table-is w.intern_empty.ensures.extends
    ] in
    let here : Stands c.match-case.table c.match-case.number (case_plain c.case-item.result) = elim c.match-case.branch [
      | some w ↦ rw (w.table-is, w.number-is, w.in-Some.is) w.in_ok-number-in-Some.ensures.number
      | none w ↦ rw (w.table-is, w.number-is, w.in-None.is) w.in_ok-number-in-None.ensures.number
    ] in
    record {
      extends = grows_on _ _ _ c.loop-case.invariant.extends grown;
      numbers = all_step case_plain c.args.cases.now c.loop-case.table c.match-case.table c.loop-case.case-index c.case-item.result c.loop-case.numbers.items c.push.new.self.items c.match-case.number (search rules) grown c.loop-case.invariant.numbers
          (same_stands c.match-case.table c.match-case.number _ _ (ap case_plain c.case-item.is) here) c.in_ok-push.ensures.items;
    }
