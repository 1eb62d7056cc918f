use Rattle.comp_entity.specs.Views.{entity_tree}
use Rattle.comp_table.specs.StandLaws.{stands_kept}
use Rattle.uses_components.proofs.types.are_equal.Goals as goal

pub equal-requires-clause-left : goal.equal-requires-clause-left
equal-requires-clause-left c =
    let first = stands_kept _ _ c.in_ok-second.ensures.kept _ _ c.in_ok-first.ensures.number in first.there

pub returns : goal.returns
returns c =
    let first = stands_kept _ _ c.in_ok-second.ensures.kept _ _ c.in_ok-first.ensures.number in
    c.equal.ensures.equal (entity_tree c.args.first.now) (entity_tree c.args.second.now) first c.in_ok-second.ensures.number c.in_ok-second.ensures.shown
