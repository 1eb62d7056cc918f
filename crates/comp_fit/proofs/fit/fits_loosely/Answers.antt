use Rattle.std.proofs.Common.{sym, ◌∙◌, refl, true}
use Rattle.comp_entity.specs.Fits.{same_name}
use Rattle.comp_fit.specs.Loose.{loose, loosely}
use Rattle.comp_fit.proofs.KindLaws.{entity_shown}
use Rattle.comp_table.specs.StandLaws.{same_stands}
use Rattle.comp_fit.proofs.fit.fits_loosely.Goals as goal

pub fits_as_named-requires-clause-asked : goal.fits_as_named-requires-clause-asked
fits_as_named-requires-clause-asked c = let asked = c.requires.asked in
    (loose asked.0, same_stands c.args.table.now c.args.asked.0 _ _ (sym (c.changed_entities_have_changed_trees.ensures loosely 0 asked.0)) asked.1, entity_shown loosely 0 asked.0 asked.2)

pub returns : goal.returns
returns c = λ x y s u shown.
    c.in_ok-answer.ensures (loose x) (loose y)
    (same_stands c.args.table.now c.args.given.0 _ _ (sym (c.changed_entities_have_changed_trees.ensures loosely 0 x)) s)
    (same_stands c.args.table.now c.args.asked.0 _ _ (sym (c.changed_entities_have_changed_trees.ensures loosely 0 y)) u)
    (entity_shown loosely 0 y shown)
    ∙ c.a_change_keeps_fit.ensures loosely (λ r s. true) same_name (λ d m n. refl) 0 x y
