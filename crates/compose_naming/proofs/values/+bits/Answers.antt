use Rattle.std.proofs.Common.{rules, ◌≡◌, ◌+◌, drop, subst, ℕ, List, Option, None, Bool, map, refl, sym, ap, ◌∙◌}
use Rattle.std.specs.Prelude.{option_map}
use Rattle.comp_entity.specs.declared.entity.ValueShape.{ValueShape}
use Rattle.comp_entity.specs.Views.{cases_of, fields_of, payload_of, value_tree, values_of}
use Rattle.compose_left.specs.Renaming.{case_tree, field_tree}
use Rattle.compose_naming.specs.Bits.{bit_in, both, cases_bit, own_bit, parts_bit, payload_bit, value_bit}
use Rattle.compose_naming.specs.Scopes.{scopes_in}
use Rattle.compose_naming.proofs.BitLaws.{list_is, none_more, one_more, option_is}
use Rattle.compose_naming.proofs.values.+bits.Goals as goal
use Rattle.compose_naming.proofs.values.+bits.Goals.{cases_bit-in-Some, cases_bit-in_default}

pub own_bit-returns-in-ListOf : goal.own_bit-returns-in-ListOf
own_bit-returns-in-ListOf t c =
    let bits = bit_in (scopes_in c.args.scopes.now) in
    c.value_bit.ensures ∙ (λ i. value_bit bits (value_tree (c.deref-in-ListOf.ensures i)))
    ∙ (λ i. own_bit bits (sym (list_is c.in-ListOf.part) i)) ∙ (λ i. own_bit bits (value_tree (sym c.in-ListOf.is i)))

pub own_bit-returns-in-OptionOf : goal.own_bit-returns-in-OptionOf
own_bit-returns-in-OptionOf t c =
    let bits = bit_in (scopes_in c.args.scopes.now) in
    c.value_bit-in-OptionOf.ensures ∙ (λ i. value_bit bits (value_tree (c.deref-in-OptionOf.ensures i)))
    ∙ (λ i. own_bit bits (sym (option_is c.in-OptionOf.part) i)) ∙ (λ i. own_bit bits (value_tree (sym c.in-OptionOf.is i)))

pub fields_bit-loop-field-preserved : goal.fields_bit-loop-field-preserved
fields_bit-loop-field-preserved t c =
    let bits = bit_in (scopes_in c.args.scopes.now) in
    one_more (λ (xs : List (List ℕ × ValueShape)). cases_bit bits (fields_of (map field_tree xs))) (λ x. value_bit bits (value_tree x.1)) (λ x xs. refl)
    c.args.fields.now c.loop-field.field-index c.field-item.result c.loop-field.bit c.both-bit.result _ c.loop-field-test.true c.field-item.is
    (c.both-bit.ensures ∙ ap (both c.loop-field.bit) c.value_bit.ensures) c.loop-field.invariant

pub parts_bit-loop-part-preserved : goal.parts_bit-loop-part-preserved
parts_bit-loop-part-preserved t c =
    let bits = bit_in (scopes_in c.args.scopes.now) in
    one_more (λ (xs : List ValueShape). parts_bit bits (values_of (map value_tree xs))) (λ x. value_bit bits (value_tree x)) (λ x xs. refl)
    c.args.parts.now c.loop-part.part-index c.part-item.result c.loop-part.bit c.both-bit.result _ c.loop-part-test.true c.part-item.is
    (c.both-bit.ensures ∙ ap (both c.loop-part.bit) c.value_bit.ensures) c.loop-part.invariant

pub cases_bit-loop-case-preserved : goal.cases_bit-loop-case-preserved
cases_bit-loop-case-preserved t c = elim c.match-case.branch [
  | cases_bit-in-Some w ↦
      one_more among of_case (λ x xs. refl) c.args.cases.now c.loop-case.case-index c.case-item.result c.loop-case.bit _ _ c.loop-case-test.true c.case-item.is
      (w.bit-is ∙ w.both-bit.ensures ∙ ap (both c.loop-case.bit) (w.value_bit.ensures ∙ (λ i. payload_bit (bit_in (scopes_in c.args.scopes.now)) (payload_of (option_map value_tree (sym w.in-Some.is i)))))) c.loop-case.invariant
  | cases_bit-in_default w ↦
      let nothing : c.case-item.result.1 ≡ None = search rules in
      subst (λ bit. both bit (among (drop (c.loop-case.case-index + 1) c.args.cases.now)) ≡ among c.args.cases.now) (sym w.bit-is)
      (none_more among of_case (λ x xs. refl) c.args.cases.now c.loop-case.case-index c.case-item.result c.loop-case.bit _ c.loop-case-test.true c.case-item.is
      (λ i. payload_bit (bit_in (scopes_in c.args.scopes.now)) (payload_of (option_map value_tree (nothing i)))) c.loop-case.invariant)
]
  where
    among : List (List ℕ × Option ValueShape) → Option Bool
    among xs = cases_bit (bit_in (scopes_in c.args.scopes.now)) (cases_of (map case_tree xs))

    of_case : List ℕ × Option ValueShape → Option Bool
    of_case x = payload_bit (bit_in (scopes_in c.args.scopes.now)) (payload_of (option_map value_tree x.1))
