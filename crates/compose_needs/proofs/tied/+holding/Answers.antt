use Rattle.std.proofs.Common.{sym, ◌∙◌}
use Rattle.comp_entity.specs.Views.{entity_tree, entries_of, named_entities, type_tree}
use Rattle.compose_needs.specs.Tied.{entity_holds_tied, entries_hold_tied, type_holds_tied}
use Rattle.compose_needs.proofs.SideLaws.{sides_hold}
use Rattle.compose_needs.proofs.ViewLaws.{entity_instance, type_instance}
use Rattle.compose_needs.proofs.tied.+holding.Goals as goal

pub entity_holds_tied-returns-in_ok-tied-in-Instance : goal.entity_holds_tied-returns-in_ok-tied-in-Instance
entity_holds_tied-returns-in_ok-tied-in-Instance t c =
    c.in_ok-tied-in-Instance.ensures
    ∙ (λ i. entries_hold_tied (entries_of (named_entities (c.deref.ensures.value i))))
    ∙ (λ i. entity_holds_tied (sym (entity_instance c.in-Instance.instance) i))
    ∙ (λ i. entity_holds_tied (entity_tree (sym c.in-Instance.is i)))

pub type_holds_tied-returns-in_ok-tied-in-Instance : goal.type_holds_tied-returns-in_ok-tied-in-Instance
type_holds_tied-returns-in_ok-tied-in-Instance t c =
    c.in_ok-tied-in-Instance.ensures
    ∙ (λ i. entries_hold_tied (entries_of (named_entities (c.deref.ensures.value i))))
    ∙ (λ i. type_holds_tied (sym (type_instance c.in-Instance.instance) i))
    ∙ (λ i. type_holds_tied (type_tree (sym c.in-Instance.is i)))

pub sides_hold_tied-returns : goal.sides_hold_tied-returns
sides_hold_tied-returns t c =
    sides_hold c.args.component.now _ _ _ _ _ c.in_ok-are_sides_tied.ensures c.in_ok-entries_hold_tied.ensures c.in_ok-tied.ensures c.deref.ensures.value c.deref-2.ensures.value c.if-not-branch.false c.if-not-branch-2.false
