use Rattle.std.proofs.Common.{ap}
use Rattle.comp_entity.specs.Views.{entity_tree}
use Rattle.comp_fit.specs.Loose.{loose_tree}
use Rattle.comp_table.specs.StandLaws.{same_stands, stands_kept}
use Rattle.uses_components.proofs.fits.can_be_given_loosely.Goals as goal

pub loosened-requires : goal.loosened-requires
loosened-requires c =
    let given = stands_kept _ _ c.in_ok-asked.ensures.kept _ _ c.in_ok-given.ensures.number in given.there

pub loosened-requires-2 : goal.loosened-requires-2
loosened-requires-2 c =
    let asked = stands_kept _ _ c.in_ok-loose_given.ensures.kept _ _ c.in_ok-asked.ensures.number in asked.there

pub fits_loosely-requires-clause-given : goal.fits_loosely-requires-clause-given
fits_loosely-requires-clause-given c =
    let given = stands_kept _ _ c.in_ok-asked.ensures.kept _ _ c.in_ok-given.ensures.number in
    (entity_tree c.args.given.now, stands_kept _ _ c.in_ok-loose_asked.ensures.kept _ _ (same_stands _ _ _ _ (ap loose_tree given.tree_is) c.in_ok-loose_given.ensures.number))

pub fits_loosely-requires-clause-asked : goal.fits_loosely-requires-clause-asked
fits_loosely-requires-clause-asked c =
    let asked = stands_kept _ _ c.in_ok-loose_given.ensures.kept _ _ c.in_ok-asked.ensures.number in
    (entity_tree c.args.asked.now, same_stands _ _ _ _ (ap loose_tree asked.tree_is) c.in_ok-loose_asked.ensures.number, c.in_ok-asked.ensures.shown)

pub returns : goal.returns
returns c =
    let given = stands_kept _ _ c.in_ok-asked.ensures.kept _ _ c.in_ok-given.ensures.number in
    let asked = stands_kept _ _ c.in_ok-loose_given.ensures.kept _ _ c.in_ok-asked.ensures.number in
    c.in_ok-answer.ensures (entity_tree c.args.given.now) (entity_tree c.args.asked.now)
    (stands_kept _ _ c.in_ok-loose_asked.ensures.kept _ _ (same_stands _ _ _ _ (ap loose_tree given.tree_is) c.in_ok-loose_given.ensures.number))
    (same_stands _ _ _ _ (ap loose_tree asked.tree_is) c.in_ok-loose_asked.ensures.number) c.in_ok-asked.ensures.shown
