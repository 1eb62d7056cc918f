use Rattle.std.proofs.Common.{subst, sym, ◌∷◌}
use Rattle.comp_declare.specs.Outer.{standing_outside}
use Rattle.comp_declare.proofs.OuterAliasLaws.{outer_item_is}
use Rattle.comp_entity.specs.Bounds.{bounded}
use Rattle.comp_scope.specs.Spaces.{added}
use Rattle.comp_space.specs.Faults.{Fails, Finds}
use Rattle.comp_space.specs.SpaceLaws.{space_kept}
use Rattle.comp_space.specs.SpaceViews.{ShowsSpaces}
use Rattle.comp_space.specs.Standings.{Shows}
use Rattle.comp_space.specs.StandingLaws.{fails_bind, found_bind, on_err_always, passed_on}
use Rattle.comp_table.specs.Plain.{plain_entity}
use Rattle.comp_declare.proofs.outer_aliases.add_outer_item.Goals as goal

pub item_around-requires : goal.item_around-requires
item_around-requires c = (c.requires.own.0 ∷ c.requires.around.0, (c.requires.own.1, c.requires.around.1))

pub returns-in_err-item-clause-found : goal.returns-in_err-item-clause-found
returns-in_err-item-clause-found c = λ ss s around shows.
    passed_on _ c.from_residual.result c.in_err-item.field-0.0 _ c.from_residual.ensures.1
    (subst (Fails c.in_err-item.field-0.0) (sym (outer_item_is ss s c.args.sort c.args.count c.args.index))
    (fails_bind (standing_outside (s ∷ ss) c.args.sort c.args.count c.args.index) _ _ (c.in_err-item.ensures.found (s ∷ ss) (shows, around))))

pub returns-in_err-item-clause-unchanged : goal.returns-in_err-item-clause-unchanged
returns-in_err-item-clause-unchanged c = λ s shows. on_err_always c.from_residual.result (space_kept c.args.table.now c.item_around.new.table c.item_around.ensures.extends c.args.space.now s shows)

pub add-requires : goal.add-requires
add-requires c = (c.in_ok-item.ensures.found (c.requires.own.0 ∷ c.requires.around.0) (c.requires.own.1, c.requires.around.1)).shown.stands.there

pub returns-clause-found : goal.returns-clause-found
returns-clause-found c = λ ss s around shows.
    let f = c.in_ok-item.ensures.found (s ∷ ss) (shows, around) in
    let kept = space_kept c.args.table.now c.item_around.new.table c.item_around.ensures.extends c.args.space.now s shows in
    subst (Finds (λ u. ShowsSpaces c.item_around.new.table c.add.new.self) c.add.result) (sym (outer_item_is ss s c.args.sort c.args.count c.args.index))
    (found_bind (Shows plain_entity c.item_around.new.table) (λ u. ShowsSpaces c.item_around.new.table c.add.new.self) c.in_ok-item.item (standing_outside (s ∷ ss) c.args.sort c.args.count c.args.index) (λ e. added bounded s e.0 e.1) c.add.result f
    (subst (λ b. Finds (λ u. ShowsSpaces c.item_around.new.table c.add.new.self) c.add.result (added bounded s f.value.0 b)) f.shown.named_is (c.add.ensures.found s f.value.0 kept f.shown.stands)))

pub returns-clause-unchanged : goal.returns-clause-unchanged
returns-clause-unchanged c = λ s shows. c.add.ensures.unchanged s (space_kept c.args.table.now c.item_around.new.table c.item_around.ensures.extends c.args.space.now s shows)
