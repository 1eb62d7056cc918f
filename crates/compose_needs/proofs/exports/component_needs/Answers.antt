use Rattle.std.proofs.Common.{rules, ◌≡◌, [], None, false, sym, ap, ◌∙◌}
use Rattle.std.specs.BTreeSet.{contains}
use Rattle.comp_entity.specs.Views.{named_entities}
use Rattle.compose_left.specs.declared.spots.Thing.{Thing}
use Rattle.compose_left.specs.Wired.{thing_cmp}
use Rattle.compose_needs.specs.Exports.{side_hides, sides_named}
use Rattle.compose_needs.proofs.ExportLaws.{sides_none, sides_some}
use Rattle.compose_needs.proofs.exports.component_needs.Goals as goal

pub returns-in-Some : goal.returns-in-Some
returns-in-Some c =
    let nothing : (t : Thing) → contains thing_cmp c.new-seen.result t ≡ false = λ t. search rules in
    sym (sides_some [] (named_entities c.args.shape.now.imports.items) (named_entities c.args.shape.now.exports.items) c.in-Some.name
    (sym (c.in_ok-name.ensures.found [] nothing ∙ ap (λ xs. side_hides [] (named_entities xs)) c.deref.ensures.value) ∙ c.in-Some.is))

pub returns : goal.returns
returns c =
    let nothing : (t : Thing) → contains thing_cmp c.new-seen.result t ≡ false = λ t. search rules in
    let none : side_hides [] (named_entities c.args.shape.now.imports.items) ≡ None = sym (c.in_ok-name.ensures.found [] nothing ∙ ap (λ xs. side_hides [] (named_entities xs)) c.deref.ensures.value) ∙ c.in-None.is in
    c.in_ok-found-in-None.ensures.found (sides_named (named_entities c.deref.result.now)) (c.in_ok-name.ensures.seen [] nothing c.in-None.is)
    ∙ (λ i. side_hides (sides_named (named_entities (c.deref.ensures.value i))) (named_entities (c.deref-in-None.ensures.value i)))
    ∙ sym (sides_none [] (named_entities c.args.shape.now.imports.items) (named_entities c.args.shape.now.exports.items) none)
