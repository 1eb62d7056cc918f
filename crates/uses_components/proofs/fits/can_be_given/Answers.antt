use Rattle.comp_entity.specs.Views.{entity_tree}
use Rattle.comp_table.specs.StandLaws.{stands_kept}
use Rattle.uses_components.proofs.fits.can_be_given.Goals as goal

pub fits-requires-clause-given : goal.fits-requires-clause-given
fits-requires-clause-given c = (entity_tree c.args.given.now, stands_kept _ _ c.in_ok-asked.ensures.kept _ _ c.in_ok-given.ensures.number)

pub fits-requires-clause-asked : goal.fits-requires-clause-asked
fits-requires-clause-asked c = (entity_tree c.args.asked.now, c.in_ok-asked.ensures.number, c.in_ok-asked.ensures.shown)

pub returns : goal.returns
returns c = c.in_ok-answer.ensures.fits (entity_tree c.args.given.now) (entity_tree c.args.asked.now)
    (stands_kept _ _ c.in_ok-asked.ensures.kept _ _ c.in_ok-given.ensures.number) c.in_ok-asked.ensures.number c.in_ok-asked.ensures.shown
