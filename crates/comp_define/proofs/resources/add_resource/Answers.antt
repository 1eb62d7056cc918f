use Rattle.std.proofs.Common.{◌∙◌, ap, subst, sym, Result, Ok, false}
use Rattle.warg_values.specs.Reading.{◌>>=◌}
use Rattle.comp_define.proofs.ResourceLaws.{counted_behind, one_made, shows_made}
use Rattle.comp_define.specs.ScopeTypes.{next_resource}
use Rattle.comp_entity.specs.Bounds.{ShapeFault, bounded}
use Rattle.comp_entity.specs.Names as names
use Rattle.comp_scope.specs.Spaces.{Spaces, added, counts_sum}
use Rattle.comp_scope.specs.Types.{destroyed, with_resource, with_type}
use Rattle.comp_space.specs.Faults.{Fails}
use Rattle.comp_space.specs.SpaceLaws.{space_kept}
use Rattle.comp_space.specs.StandingLaws.{fails_bind, on_err_always, passed_on}
use Rattle.comp_define.proofs.resources.add_resource.Goals as goal

pub returns-in_err-check_destructor-clause-found : goal.returns-in_err-check_destructor-clause-found
unfolding with_type
returns-in_err-check_destructor-clause-found c = λ around s shows.
    passed_on _ c.from_residual.result c.in_err-check_destructor.field-0.0 _ c.from_residual.ensures.1
    (fails_bind (destroyed s c.args.destructor) _ _ (c.in_err-check_destructor.ensures c.args.table.now s shows))

pub returns-in_err-number-clause-unchanged : goal.returns-in_err-number-clause-unchanged
returns-in_err-number-clause-unchanged c = λ s shows. on_err_always c.from_residual-in_err-number.result (space_kept c.args.table.now c.next_resource.new.table c.next_resource.ensures.extends c.args.space.now s shows)

pub returns-in_err-made-clause-unchanged : goal.returns-in_err-made-clause-unchanged
returns-in_err-made-clause-unchanged c = λ s shows. on_err_always c.from_residual-in_err-made.result (space_kept c.args.table.now c.next_resource.new.table c.next_resource.ensures.extends c.args.space.now s shows)

pub add-requires : goal.add-requires
add-requires c = (c.in_ok-number.ensures.number c.requires.0 c.requires.1).there

pub returns-in_err-add-clause-found : goal.returns-in_err-add-clause-found
unfolding with_type
returns-in_err-add-clause-found c = λ around s shows.
    let there = c.in_ok-check_destructor.ensures c.args.table.now s shows in
    let kept = space_kept c.args.table.now c.next_resource.new.table c.next_resource.ensures.extends c.args.space.now there.value there.shown in
    passed_on _ c.from_residual-in_err-add.result c.in_err-add.field-0.0 _ c.from_residual-in_err-add.ensures.1
    (subst (Fails c.in_err-add.field-0.0) (sym (ap (λ r. r >>= with_resource bounded) there.given_is ∙ counted_behind there.value))
    (fails_bind (added bounded there.value (next_resource there.value) false) _ _
    (c.in_err-add.ensures.found there.value (next_resource there.value) kept (c.in_ok-number.ensures.number there.value there.shown))))

pub returns-in_err-add-clause-unchanged : goal.returns-in_err-add-clause-unchanged
returns-in_err-add-clause-unchanged c = λ s shows.
    on_err_always c.from_residual-in_err-add.result (c.in_err-add.ensures.unchanged s (space_kept c.args.table.now c.next_resource.new.table c.next_resource.ensures.extends c.args.space.now s shows))

pub returns-clause-found : goal.returns-clause-found
unfolding with_type
returns-clause-found c = λ around s shows.
    let there = c.in_ok-check_destructor.ensures c.args.table.now s shows in
    let kept = space_kept c.args.table.now c.next_resource.new.table c.next_resource.ensures.extends c.args.space.now there.value there.shown in
    let f = c.in_ok-add.ensures.found there.value (next_resource there.value) kept (c.in_ok-number.ensures.number there.value there.shown) in
    record {
      value = record f.value { made = one_made there.value };
      given_is = ap (λ r. r >>= with_resource bounded) there.given_is ∙ counted_behind there.value ∙ ap (λ (r : Result Spaces ShapeFault). r >>= λ (u : Spaces). Ok (record u { made = one_made there.value })) f.given_is;
      shown = shows_made c.next_resource.new.table c.add.new.self f.value c.in_ok-made.made (one_made there.value) (c.in_ok-made.ensures ∙ ap (λ (n : names.Counts). counts_sum n (record { resources = 1; places = 0 })) there.shown.made) f.shown;
    }
