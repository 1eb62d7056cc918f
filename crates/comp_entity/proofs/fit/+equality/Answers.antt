use Rattle.std.proofs.Common.{sym, ◌∙◌, refl}
use Rattle.std.specs.Cmp.Lexicographic.{pointwise}
use Rattle.comp_entity.specs.Comparing.{entry_alike, entity_alike, type_alike}
use Rattle.comp_entity.proofs.ViewLaws.{instances_equal, types_of_instances, components_are}
use Rattle.comp_entity.specs.declared.naming.Naming.TheVariants as naming
use Rattle.comp_entity.proofs.fit.+equality.Goals as goal

pub entity_equal-returns-in-Instance-Instance : goal.entity_equal-returns-in-Instance-Instance
entity_equal-returns-in-Instance-Instance t c =
    c.entries_equal.ensures ∙ (λ i. pointwise (entry_alike c.args.naming.now) (c.deref.ensures.value i) (c.deref-in-Instance-Instance.ensures.value i))
    ∙ sym (instances_equal c.args.naming.now c.in-Instance-Instance.given c.in-Instance-Instance.asked)
    ∙ (λ i. entity_alike c.args.naming.now (sym c.in-Instance-Instance.is-0 i) (sym c.in-Instance-Instance.is-1 i))

pub type_equal-returns-in-Instance-Instance : goal.type_equal-returns-in-Instance-Instance
type_equal-returns-in-Instance-Instance t c =
    c.entries_equal.ensures ∙ (λ i. pointwise (entry_alike (naming.Within c.args.naming)) (c.deref.ensures.value i) (c.deref-in-Instance-Instance.ensures.value i))
    ∙ sym (types_of_instances c.args.naming c.in-Instance-Instance.given c.in-Instance-Instance.asked)
    ∙ (λ i. type_alike c.args.naming.now (sym c.in-Instance-Instance.is-0 i) (sym c.in-Instance-Instance.is-1 i))

pub component_equal-returns : goal.component_equal-returns
component_equal-returns t c = c.sides_equal.ensures ∙ sym (components_are c.args.naming _ refl c.args.given.now c.args.asked.now)
