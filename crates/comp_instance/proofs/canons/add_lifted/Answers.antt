use Rattle.std.proofs.Common.{sym, subst}
use Rattle.comp_entity.specs.Bounds.{bounded}
use Rattle.comp_instance.specs.Lifted.{lifted_at}
use Rattle.comp_scope.specs.Spaces.{added}
use Rattle.comp_space.specs.Faults.{Fails, Finds}
use Rattle.comp_space.specs.SpaceLaws.{space_kept}
use Rattle.comp_space.specs.SpaceViews.{ShowsSpaces}
use Rattle.comp_space.specs.StandingLaws.{fails_bind, found_bind, on_err_always, passed_on}
use Rattle.comp_space.specs.Standings.{Shows}
use Rattle.comp_table.specs.Plain.{plain_entity}
use Rattle.comp_instance.proofs.CanonLaws.{lift_is}
use Rattle.comp_instance.proofs.canons.add_lifted.Goals as goal

pub returns-in_err-func-clause-found : goal.returns-in_err-func-clause-found
returns-in_err-func-clause-found c = λ s shows.
    passed_on _ c.from_residual.result c.in_err-func.field-0.0 _ c.from_residual.ensures.1
    (subst (Fails c.in_err-func.field-0.0) (sym (lift_is s c.args.func c.args.options.now c.args.ty))
    (fails_bind (lifted_at s c.args.func c.args.options.now c.args.ty) (λ x. added bounded s x.0 x.1) c.in_err-func.field-0.0 (c.in_err-func.ensures.found s shows)))

pub returns-in_err-func-clause-unchanged : goal.returns-in_err-func-clause-unchanged
returns-in_err-func-clause-unchanged c = λ s shows.
    on_err_always c.from_residual.result (space_kept c.args.table.now c.lifted_at.new.table c.lifted_at.ensures.extends c.args.space.now s shows)

pub returns-clause-found : goal.returns-clause-found
returns-clause-found c = λ s shows.
    let kept = space_kept c.args.table.now c.lifted_at.new.table c.lifted_at.ensures.extends c.args.space.now s shows in
    let f = c.in_ok-func.ensures.found s shows in
    subst (Finds (λ u. ShowsSpaces c.lifted_at.new.table c.add.new.self) c.add.result) (sym (lift_is s c.args.func c.args.options.now c.args.ty))
    (found_bind (Shows plain_entity c.lifted_at.new.table) (λ u. ShowsSpaces c.lifted_at.new.table c.add.new.self) c.in_ok-func.func (lifted_at s c.args.func c.args.options.now c.args.ty) (λ x. added bounded s x.0 x.1) c.add.result f
    (subst (λ b. Finds (λ u. ShowsSpaces c.lifted_at.new.table c.add.new.self) c.add.result (added bounded s f.value.0 b)) f.shown.named_is (c.add.ensures.found s f.value.0 kept f.shown.stands)))

pub returns-clause-unchanged : goal.returns-clause-unchanged
returns-clause-unchanged c = λ s shows.
    c.add.ensures.unchanged s (space_kept c.args.table.now c.lifted_at.new.table c.lifted_at.ensures.extends c.args.space.now s shows)
