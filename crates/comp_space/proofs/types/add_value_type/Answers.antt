use Rattle.std.proofs.Common.{subst, sym}
use Rattle.comp_entity.specs.Bounds.{bounded}
use Rattle.comp_entity.specs.Entity.{IsType, Value}
use Rattle.comp_scope.specs.Spaces.{added}
use Rattle.comp_scope.specs.Types.{with_type}
use Rattle.comp_scope.specs.Values.{value_of}
use Rattle.comp_space.specs.Faults.{Finds}
use Rattle.comp_space.specs.SpaceViews.{ShowsSpaces}
use Rattle.comp_space.specs.Standings.{AllShow, AreThere, Shows}
use Rattle.comp_table.specs.Plain.{plain_value}
use Rattle.comp_space.specs.SpaceLaws.{space_is_there, space_kept}
use Rattle.comp_space.specs.StandingLaws.{fails_bind, found_bind, on_err_always, passed_on}
use Rattle.comp_space.proofs.types.add_value_type.Goals as goal

pub value_of-requires : goal.value_of-requires
value_of-requires c = subst (AreThere c.args.table.now) (sym c.deref.ensures.value) (space_is_there c.args.table.now c.args.space.now c.requires.0 c.requires.1).types

pub returns-in_err-standing-clause-found : goal.returns-in_err-standing-clause-found
unfolding with_type
returns-in_err-standing-clause-found c = λ around s shows.
    passed_on _ c.from_residual.result c.in_err-standing.field-0.0 _ c.from_residual.ensures.1
    (fails_bind (value_of s c.args.defined.now) _ _ (c.in_err-standing.ensures.found s (subst (λ xs. AllShow c.args.table.now xs s.types) (sym c.deref.ensures.value) shows.types)))

pub returns-in_err-standing-clause-unchanged : goal.returns-in_err-standing-clause-unchanged
returns-in_err-standing-clause-unchanged c = λ s shows. on_err_always c.from_residual.result (space_kept c.args.table.now c.value_of.new.table c.value_of.ensures.extends c.args.space.now s shows)

pub returns-clause-found : goal.returns-clause-found
unfolding with_type
returns-clause-found c = λ around s shows.
    let f = c.in_ok-standing.ensures.found s (subst (λ xs. AllShow c.args.table.now xs s.types) (sym c.deref.ensures.value) shows.types) in
    let kept = space_kept c.args.table.now c.value_of.new.table c.value_of.ensures.extends c.args.space.now s shows in
    found_bind (Shows plain_value c.value_of.new.table) (λ u. ShowsSpaces c.value_of.new.table c.add.new.self) c.in_ok-standing.standing (value_of s c.args.defined.now) (λ t. added bounded s (IsType (Value t.0)) t.1) c.add.result f
    (subst (λ b. Finds (λ u. ShowsSpaces c.value_of.new.table c.add.new.self) c.add.result (added bounded s (IsType (Value f.value.0)) b)) f.shown.named_is (c.add.ensures.found s (IsType (Value f.value.0)) kept f.shown.stands))

pub returns-clause-unchanged : goal.returns-clause-unchanged
returns-clause-unchanged c = λ s shows. c.add.ensures.unchanged s (space_kept c.args.table.now c.value_of.new.table c.value_of.ensures.extends c.args.space.now s shows)
