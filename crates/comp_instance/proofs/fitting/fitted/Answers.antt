use Rattle.std.proofs.Common.{ap, sym, ◌∙◌, cond, Ok, Err}
use Rattle.comp_entity.specs.Bounds.{DoesNotFit}
use Rattle.comp_entity.specs.Names.{changing, entity_by}
use Rattle.comp_table.specs.Changes.{tree_by}
use Rattle.comp_table.specs.StandLaws.{same_stands, stands_kept}
use Rattle.comp_instance.proofs.fitting.fitted.Goals as goal

pub fits-requires-clause-given : goal.fits-requires-clause-given
fits-requires-clause-given g c =
    let given = c.requires.given in
    (given.0, stands_kept _ _ c.in_ok-called.ensures.kept _ _ given.1)

pub fits-requires-clause-asked : goal.fits-requires-clause-asked
fits-requires-clause-asked g c =
    let asked = c.requires.asked in
    let change = changing (g.R.Renaming.resources c.args.renaming.now) (g.R.Renaming.places c.args.renaming.now) in
    (entity_by change 0 asked.0, same_stands _ _ _ _ (ap (tree_by change 0) asked.1.tree_is ∙ sym (c.changed_entities_have_changed_trees.ensures change 0 asked.0)) c.in_ok-called.ensures.number)

pub returns-then-not-branch-clause-found : goal.returns-then-not-branch-clause-found
returns-then-not-branch-clause-found g c = λ x y s u.
    let change = changing (g.R.Renaming.resources c.args.renaming.now) (g.R.Renaming.places c.args.renaming.now) in
    let called = same_stands _ _ _ _ (ap (tree_by change 0) u.tree_is ∙ sym (c.changed_entities_have_changed_trees.ensures change 0 y)) c.in_ok-called.ensures.number in
    ap (λ b. cond b (Ok (entity_by change 0 y)) (Err DoesNotFit)) (sym (c.in_ok-fits.ensures x (entity_by change 0 y) (stands_kept _ _ c.in_ok-called.ensures.kept _ _ s) called) ∙ c.if-not-branch.true)

pub returns-clause-found : goal.returns-clause-found
returns-clause-found g c = λ x y s u.
    let change = changing (g.R.Renaming.resources c.args.renaming.now) (g.R.Renaming.places c.args.renaming.now) in
    let called = same_stands _ _ _ _ (ap (tree_by change 0) u.tree_is ∙ sym (c.changed_entities_have_changed_trees.ensures change 0 y)) c.in_ok-called.ensures.number in
    record {
      value = entity_by change 0 y;
      given_is = ap (λ b. cond b (Ok (entity_by change 0 y)) (Err DoesNotFit)) (sym (c.in_ok-fits.ensures x (entity_by change 0 y) (stands_kept _ _ c.in_ok-called.ensures.kept _ _ s) called) ∙ c.if-not-branch.false);
      shown = called;
    }
