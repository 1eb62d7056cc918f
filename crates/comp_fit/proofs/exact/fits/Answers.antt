use Rattle.std.proofs.Common.{sym, ◌∙◌}
use Rattle.comp_entity.specs.Fits.{resource_for, stands, with_standing}
use Rattle.comp_entity.specs.Names.{changing}
use Rattle.comp_table.specs.Changes.{tree_by}
use Rattle.comp_table.specs.StandLaws.{same_stands, stands_kept}
use Rattle.std.specs.Prelude.{unwrap_or}
use Rattle.comp_fit.proofs.KindLaws.{entity_shown}
use Rattle.comp_fit.proofs.exact.fits.Goals as goal

pub fits_as_named-requires-clause-asked : goal.fits_as_named-requires-clause-asked
fits_as_named-requires-clause-asked c =
    let given = c.requires.given in
    let asked = c.requires.asked in
    let change = changing (λ n. unwrap_or (resource_for (stands given.0 asked.0) n) n) (λ n. n) in
    let found = (c.in_ok-found.ensures given.0 asked.0 given.1 asked.1).resources in (
      with_standing given.0 asked.0,
      same_stands c.renamed.new.table c.in_ok-called.called _ _
          ((λ i. tree_by (changing (λ n. unwrap_or (found n i) n) (λ n. n)) 0 (asked.1.tree_is i)) ∙ sym (c.changed_entities_have_changed_trees.ensures change 0 asked.0))
          c.in_ok-called.ensures.number,
      entity_shown change 0 asked.0 asked.2,
    )

pub returns-clause-fits : goal.returns-clause-fits
returns-clause-fits c = λ x y s u shown.
    let change = changing (λ n. unwrap_or (resource_for (stands x y) n) n) (λ n. n) in
    let found = (c.in_ok-found.ensures x y s u).resources in
    c.in_ok-answer.ensures x (with_standing x y) (stands_kept _ _ c.in_ok-called.ensures.kept _ _ s)
    (same_stands c.renamed.new.table c.in_ok-called.called _ _
    ((λ i. tree_by (changing (λ n. unwrap_or (found n i) n) (λ n. n)) 0 (u.tree_is i)) ∙ sym (c.changed_entities_have_changed_trees.ensures change 0 y))
    c.in_ok-called.ensures.number)
    (entity_shown change 0 y shown)
