use Rattle.std.proofs.Common.{sym, ◌∙◌}
use Rattle.std.specs.Cmp.Lexicographic.{pointwise}
use Rattle.comp_entity.specs.Comparing.{value_alike, field_alike, case_alike}
use Rattle.comp_entity.proofs.ViewLaws.{records_are, variants_are, tuples_are}
use Rattle.comp_entity.proofs.values.+values.Goals as goal

pub value_equal-returns-in-RecordOf-RecordOf : goal.value_equal-returns-in-RecordOf-RecordOf
value_equal-returns-in-RecordOf-RecordOf t c =
    c.fields_equal.ensures ∙ (λ i. pointwise (field_alike c.args.naming.now) (c.deref.ensures.value i) (c.deref-in-RecordOf-RecordOf.ensures.value i))
    ∙ sym (records_are c.args.naming.now c.in-RecordOf-RecordOf.field-0-0 c.in-RecordOf-RecordOf.field-0-1 c.in-RecordOf-RecordOf.given c.in-RecordOf-RecordOf.asked)
    ∙ (λ i. value_alike c.args.naming.now (sym c.in-RecordOf-RecordOf.is-0 i) (sym c.in-RecordOf-RecordOf.is-1 i))

pub value_equal-returns-in-VariantOf-VariantOf : goal.value_equal-returns-in-VariantOf-VariantOf
value_equal-returns-in-VariantOf-VariantOf t c =
    c.cases_equal.ensures ∙ (λ i. pointwise (case_alike c.args.naming.now) (c.deref-in-VariantOf-VariantOf.ensures.value i) (c.deref-in-VariantOf-VariantOf-2.ensures.value i))
    ∙ sym (variants_are c.args.naming.now c.in-VariantOf-VariantOf.field-0-0 c.in-VariantOf-VariantOf.field-0-1 c.in-VariantOf-VariantOf.given c.in-VariantOf-VariantOf.asked)
    ∙ (λ i. value_alike c.args.naming.now (sym c.in-VariantOf-VariantOf.is-0 i) (sym c.in-VariantOf-VariantOf.is-1 i))

pub value_equal-returns-in-TupleOf-TupleOf : goal.value_equal-returns-in-TupleOf-TupleOf
value_equal-returns-in-TupleOf-TupleOf t c =
    c.parts_equal.ensures ∙ (λ i. pointwise (value_alike c.args.naming.now) (c.deref-in-TupleOf-TupleOf.ensures.value i) (c.deref-in-TupleOf-TupleOf-2.ensures.value i))
    ∙ sym (tuples_are c.args.naming.now c.in-TupleOf-TupleOf.given c.in-TupleOf-TupleOf.asked)
    ∙ (λ i. value_alike c.args.naming.now (sym c.in-TupleOf-TupleOf.is-0 i) (sym c.in-TupleOf-TupleOf.is-1 i))
