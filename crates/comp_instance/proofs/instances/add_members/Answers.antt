use Rattle.std.proofs.Common.{[], subst}
use Rattle.comp_entity.specs.Bounds.{bounded}
use Rattle.comp_entity.specs.Entity.{IsInstance}
use Rattle.comp_instance.specs.Items.{ShowsInstance}
use Rattle.comp_scope.specs.Instances.{all_have_bit, members, with_instance}
use Rattle.comp_scope.specs.Spaces.{added, entries_in}
use Rattle.comp_space.specs.Faults.{Finds}
use Rattle.comp_space.specs.SpaceLaws.{space_kept}
use Rattle.comp_space.specs.SpaceViews.{ShowsSpaces}
use Rattle.comp_space.specs.StandingLaws.{fails_bind, found_bind, on_err_always, passed_on}
use Rattle.comp_instance.proofs.instances.add_members.Goals as goal

pub returns-in_err-instance-clause-found : goal.returns-in_err-instance-clause-found
unfolding with_instance
returns-in_err-instance-clause-found c = λ s shows.
    passed_on _ c.from_residual.result c.in_err-instance.field-0.0 _ c.from_residual.ensures.1
    (fails_bind (members s [] c.args.items.now) (λ ms. added bounded s (IsInstance (entries_in ms)) (all_have_bit ms)) c.in_err-instance.field-0.0 (c.in_err-instance.ensures.found s shows))

pub returns-in_err-instance-clause-unchanged : goal.returns-in_err-instance-clause-unchanged
returns-in_err-instance-clause-unchanged c = λ s shows.
    on_err_always c.from_residual.result (space_kept c.args.table.now c.members.new.table c.members.ensures.extends c.args.space.now s shows)

pub add-requires : goal.add-requires
add-requires c = (c.in_ok-instance.ensures.found c.requires.0 c.requires.1).shown.stands.there

pub returns-clause-found : goal.returns-clause-found
unfolding with_instance
returns-clause-found c = λ s shows.
    let kept = space_kept c.args.table.now c.members.new.table c.members.ensures.extends c.args.space.now s shows in
    let f = c.in_ok-instance.ensures.found s shows in
    found_bind (ShowsInstance c.members.new.table) (λ u. ShowsSpaces c.members.new.table c.add.new.self) c.in_ok-instance.instance (members s [] c.args.items.now) (λ ms. added bounded s (IsInstance (entries_in ms)) (all_have_bit ms)) c.add.result f
    (subst (λ b. Finds (λ u. ShowsSpaces c.members.new.table c.add.new.self) c.add.result (added bounded s (IsInstance (entries_in f.value)) b)) f.shown.named_is (c.add.ensures.found s (IsInstance (entries_in f.value)) kept f.shown.stands))

pub returns-clause-unchanged : goal.returns-clause-unchanged
returns-clause-unchanged c = λ s shows.
    c.add.ensures.unchanged s (space_kept c.args.table.now c.members.new.table c.members.ensures.extends c.args.space.now s shows)
