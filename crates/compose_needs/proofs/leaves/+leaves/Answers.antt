use Rattle.std.proofs.Common.{◌++◌, sym, ◌∙◌}
use Rattle.comp_entity.specs.Views.{entity_tree, entries_of, named_entities}
use Rattle.compose_needs.specs.Leaves.{leaves_among, leaves_from}
use Rattle.compose_needs.proofs.ViewLaws.{entity_instance}
use Rattle.compose_needs.proofs.leaves.+leaves.Goals as goal

pub push_leaves-returns-in_ok-push_inner_leaves-in-Instance : goal.push_leaves-returns-in_ok-push_inner_leaves-in-Instance
push_leaves-returns-in_ok-push_inner_leaves-in-Instance t c =
    c.in_ok-push_inner_leaves-in-Instance.ensures
    ∙ (λ i. c.args.leaves.now.items ++ leaves_among c.args.path.now (entries_of (named_entities (c.deref.ensures.value i))))
    ∙ (λ i. c.args.leaves.now.items ++ leaves_from c.args.path.now (sym (entity_instance c.in-Instance.instance) i))
    ∙ (λ i. c.args.leaves.now.items ++ leaves_from c.args.path.now (entity_tree (sym c.in-Instance.is i)))
