use Rattle.std.proofs.Common.{◌++◌, sym, ◌∙◌}
use Rattle.comp_entity.specs.Names.{in_entity, in_entries, in_type}
use Rattle.comp_entity.specs.Views.{entity_tree, entries_of, named_entities, type_tree}
use Rattle.compose_needs.specs.Mentioned.{outwards}
use Rattle.compose_needs.proofs.ViewLaws.{entity_instance, next, type_instance}
use Rattle.compose_needs.proofs.mentions.+mentioning.Goals as goal

pub push_entity-returns-in_ok-push_entries-in-Instance : goal.push_entity-returns-in_ok-push_entries-in-Instance
push_entity-returns-in_ok-push_entries-in-Instance t c =
    c.in_ok-push_entries-in-Instance.ensures
    ∙ (λ i. c.args.things.now.items ++ outwards (in_entries c.args.depth (entries_of (named_entities (c.deref.ensures.value i)))))
    ∙ (λ i. c.args.things.now.items ++ outwards (in_entity c.args.depth (sym (entity_instance c.in-Instance.instance) i)))
    ∙ (λ i. c.args.things.now.items ++ outwards (in_entity c.args.depth (entity_tree (sym c.in-Instance.is i))))

pub push_type-returns-in_ok-push_entries-in-Instance : goal.push_type-returns-in_ok-push_entries-in-Instance
push_type-returns-in_ok-push_entries-in-Instance t c =
    c.in_ok-push_entries-in-Instance.ensures
    ∙ (λ i. c.args.things.now.items ++ outwards (in_entries (next c.args.depth c.in_ok-inner-in-Instance.inner c.in_ok-inner-in-Instance.ensures i) (entries_of (named_entities (c.deref.ensures.value i)))))
    ∙ (λ i. c.args.things.now.items ++ outwards (in_type c.args.depth (sym (type_instance c.in-Instance.instance) i)))
    ∙ (λ i. c.args.things.now.items ++ outwards (in_type c.args.depth (type_tree (sym c.in-Instance.is i))))
