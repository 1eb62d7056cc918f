use Rattle.yaml_read.specs.NumberLaws.{signed_is, signed_high, signed_low, signed_none}
use Rattle.std.proofs.Common.{sym, subst, w64, ℤ, FitsSigned}
use Rattle.std.proofs.lemmas.Int.{to_z-of_z}
use Rattle.yaml_read.proofs.deserializer.signed_number.Goals as goal

pub returns-in-Ok-clause-number : goal.returns-in-Ok-clause-number
returns-in-Ok-clause-number c =
    let fits = subst (λ (z : ℤ). FitsSigned w64 z) (sym c.in-Ok.ensures.value.0.1) c.in-Ok.ensures.value.0.0.1 in
    rw (to_z-of_z w64 c.in-Ok.number fits) (sym (signed_is c.args.least c.args.most c.in-Ok.number c.args.text.now c.in-Ok.ensures.value.0.0.0 c.in-Ok.ensures.value.0.1 (rw (to_z-of_z w64 c.in-Ok.number fits, to_z-of_z w64 c.args.least c.ranges.least) at c.if-least-number.true) (rw (to_z-of_z w64 c.in-Ok.number fits, to_z-of_z w64 c.args.most c.ranges.most) at c.if-number-most.true)))

pub returns-in_default-clause-number : goal.returns-in_default-clause-number
returns-in_default-clause-number c =
    let fits = subst (λ (z : ℤ). FitsSigned w64 z) (sym c.in-Ok.ensures.value.0.1) c.in-Ok.ensures.value.0.0.1 in
    sym (signed_high c.args.least c.args.most c.in-Ok.number c.args.text.now c.in-Ok.ensures.value.0.1 (rw (to_z-of_z w64 c.in-Ok.number fits, to_z-of_z w64 c.args.most c.ranges.most) at c.if-number-most.false))

pub returns-in_default-2-clause-number : goal.returns-in_default-2-clause-number
returns-in_default-2-clause-number c =
    let fits = subst (λ (z : ℤ). FitsSigned w64 z) (sym c.in-Ok.ensures.value.0.1) c.in-Ok.ensures.value.0.0.1 in
    sym (signed_low c.args.least c.args.most c.in-Ok.number c.args.text.now c.in-Ok.ensures.value.0.1 (rw (to_z-of_z w64 c.in-Ok.number fits, to_z-of_z w64 c.args.least c.ranges.least) at c.if-least-number.false))

pub returns-in_default-3-clause-number : goal.returns-in_default-3-clause-number
returns-in_default-3-clause-number c = sym (signed_none c.args.least c.args.most c.args.text.now c.ranges.least c.ranges.most c.in_default.ensures.value.0)
