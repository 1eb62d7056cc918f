use Rattle.std.proofs.Common.{sym, ap, ◌∙◌}
use Rattle.comp_entity.specs.Views.{entity_tree, entries_of, named_entities, type_tree}
use Rattle.compose_naming.specs.Bits.{behind, behind_all, behind_type}
use Rattle.compose_naming.specs.Scopes.{behind_sides, scopes_in, where_passed}
use Rattle.compose_naming.proofs.PassLaws.{inner_fails, inner_passes, sides_pass}
use Rattle.compose_naming.proofs.ViewLaws.{component_is, entity_instance, type_instance}
use Rattle.compose_naming.proofs.entities.+passing.Goals as goal

pub pass_component-returns : goal.pass_component-returns
pass_component-returns t c =
    ap (λ s. behind_sides s (scopes_in c.args.scopes.now.items)) (component_is c.args.component.now)
    ∙ sides_pass (entries_of (named_entities c.args.component.now.imports.items)) (entries_of (named_entities c.args.component.now.exports.items)) _ _ _ _ _
    c.in_ok-enter.ensures
    (ap (λ es. behind_all (entries_of (named_entities es)) (scopes_in c.enter.new.scopes.items)) (sym c.deref.ensures.value) ∙ c.in_ok-pass_entries.ensures
    ∙ ap (λ b. where_passed b (scopes_in c.pass_entries.new.scopes.items)) c.if-not-branch.false)
    (ap (λ es. behind_all (entries_of (named_entities es)) (scopes_in c.pass_entries.new.scopes.items)) (sym c.deref-2.ensures.value) ∙ c.in_ok-pass_entries-2.ensures
    ∙ ap (λ b. where_passed b (scopes_in c.pass_entries-2.new.scopes.items)) c.if-not-branch-2.false)
    c.leave.ensures

pub pass_entity-returns-in_ok-passes-in-Instance : goal.pass_entity-returns-in_ok-passes-in-Instance
pass_entity-returns-in_ok-passes-in-Instance t c =
    (λ i. behind (entity_tree (c.in-Instance.is i)) (scopes_in c.args.scopes.now.items))
    ∙ (λ i. behind (entity_instance c.in-Instance.instance i) (scopes_in c.args.scopes.now.items))
    ∙ (λ i. behind_all (entries_of (named_entities (sym c.deref-in-Instance.ensures.value i))) (scopes_in c.args.scopes.now.items))
    ∙ c.in_ok-passes-in-Instance.ensures

pub pass_type-returns-then-not-branch : goal.pass_type-returns-then-not-branch
pass_type-returns-then-not-branch t c =
    (λ i. behind_type (type_tree (c.in-Instance.is i)) (scopes_in c.args.scopes.now.items))
    ∙ (λ i. behind_type (type_instance c.in-Instance.instance i) (scopes_in c.args.scopes.now.items))
    ∙ inner_fails (entries_of (named_entities c.in-Instance.instance.exports.items)) _ _ c.in_ok-enter-in-Instance.ensures
    ((λ i. behind_all (entries_of (named_entities (sym c.deref.ensures.value i))) (scopes_in c.enter.new.scopes.items))
    ∙ c.in_ok-pass_entries-in-Instance.ensures ∙ ap (λ b. where_passed b (scopes_in c.pass_entries.new.scopes.items)) c.if-not-branch.true)

pub pass_type-returns-else-not-branch : goal.pass_type-returns-else-not-branch
pass_type-returns-else-not-branch t c =
    (λ i. behind_type (type_tree (c.in-Instance.is i)) (scopes_in c.args.scopes.now.items))
    ∙ (λ i. behind_type (type_instance c.in-Instance.instance i) (scopes_in c.args.scopes.now.items))
    ∙ inner_passes (entries_of (named_entities c.in-Instance.instance.exports.items)) _ _ _ _ c.in_ok-enter-in-Instance.ensures
    ((λ i. behind_all (entries_of (named_entities (sym c.deref.ensures.value i))) (scopes_in c.enter.new.scopes.items))
    ∙ c.in_ok-pass_entries-in-Instance.ensures ∙ ap (λ b. where_passed b (scopes_in c.pass_entries.new.scopes.items)) c.if-not-branch.false)
    c.leave.ensures
