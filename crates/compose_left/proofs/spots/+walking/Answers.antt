use Rattle.std.proofs.Common.{◌++◌, sym, ◌∙◌}
use Rattle.comp_entity.specs.Views.{entries_of, named_entities, entity_tree}
use Rattle.compose_left.specs.Spots.{inner_spots, spots_in}
use Rattle.compose_left.proofs.ViewLaws.{entity_instance}
use Rattle.compose_left.proofs.spots.+walking.Goals as goal

pub push_spots-returns-in_ok-push_inner_spots-in-Instance : goal.push_spots-returns-in_ok-push_inner_spots-in-Instance
push_spots-returns-in_ok-push_inner_spots-in-Instance t c =
    c.in_ok-push_inner_spots-in-Instance.ensures
    ∙ (λ i. c.args.spots.now.items ++ inner_spots c.args.number c.args.name.now c.args.path.now (entries_of (named_entities (c.deref.ensures.value i))))
    ∙ (λ i. c.args.spots.now.items ++ spots_in c.args.number c.args.name.now c.args.path.now (sym (entity_instance c.in-Instance.instance) i))
    ∙ (λ i. c.args.spots.now.items ++ spots_in c.args.number c.args.name.now c.args.path.now (entity_tree (sym c.in-Instance.is i)))
