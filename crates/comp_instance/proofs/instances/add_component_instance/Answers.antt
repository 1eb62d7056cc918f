use Rattle.std.proofs.Common.{sym, subst}
use Rattle.comp_entity.specs.Bounds.{bounded}
use Rattle.comp_instance.specs.Instances.{instance_at}
use Rattle.comp_scope.specs.Descriptions.{with_made}
use Rattle.comp_space.specs.Descriptions.{ShowsDescribed}
use Rattle.comp_space.specs.Faults.{Fails, Finds}
use Rattle.comp_space.specs.SpaceLaws.{space_kept}
use Rattle.comp_space.specs.SpaceViews.{ShowsSpaces}
use Rattle.comp_space.specs.StandingLaws.{fails_bind, found_bind, on_err_always, passed_on}
use Rattle.comp_instance.proofs.InstanceLaws.{instantiate_is}
use Rattle.comp_instance.proofs.instances.add_component_instance.Goals as goal

pub returns-in_err-described-clause-found : goal.returns-in_err-described-clause-found
returns-in_err-described-clause-found c = λ s shows.
    passed_on _ c.from_residual.result c.in_err-described.field-0.0 _ c.from_residual.ensures.1
    (subst (Fails c.in_err-described.field-0.0) (sym (instantiate_is s c.args.component c.args.args.now))
    (fails_bind (instance_at s c.args.component c.args.args.now) (λ d. with_made bounded s d) c.in_err-described.field-0.0 (c.in_err-described.ensures.found s shows)))

pub returns-in_err-described-clause-unchanged : goal.returns-in_err-described-clause-unchanged
returns-in_err-described-clause-unchanged c = λ s shows.
    on_err_always c.from_residual.result (space_kept c.args.table.now c.instance_at.new.table c.instance_at.ensures.extends c.args.space.now s shows)

pub add_made-requires : goal.add_made-requires
add_made-requires c = (c.in_ok-described.ensures.found c.requires.0 c.requires.1).shown.standing.stands.there

pub returns-clause-found : goal.returns-clause-found
returns-clause-found c = λ s shows.
    let kept = space_kept c.args.table.now c.instance_at.new.table c.instance_at.ensures.extends c.args.space.now s shows in
    let f = c.in_ok-described.ensures.found s shows in
    subst (Finds (λ u. ShowsSpaces c.instance_at.new.table c.add_made.new.space) c.add_made.result) (sym (instantiate_is s c.args.component c.args.args.now))
    (found_bind (ShowsDescribed c.instance_at.new.table) (λ u. ShowsSpaces c.instance_at.new.table c.add_made.new.space) c.in_ok-described.described (instance_at s c.args.component c.args.args.now) (λ d. with_made bounded s d) c.add_made.result f
    (c.add_made.ensures.found s f.value kept f.shown))

pub returns-clause-unchanged : goal.returns-clause-unchanged
returns-clause-unchanged c = λ s shows.
    c.add_made.ensures.unchanged s (space_kept c.args.table.now c.instance_at.new.table c.instance_at.ensures.extends c.args.space.now s shows)
