use Rattle.std.proofs.Common.{ap, subst, sym, ◌∙◌, Ok}
use Rattle.warg_values.specs.Reading.{◌>>=◌}
use Rattle.comp_entity.specs.Bounds.{bounded, kept}
use Rattle.comp_scope.specs.Spaces.{added, placed}
use Rattle.comp_space.specs.Faults.{Fails}
use Rattle.comp_space.proofs.ModuleLaws.{kept_is}
use Rattle.comp_space.specs.StandingLaws.{fails_bind, passed_on}
use Rattle.comp_space.proofs.space.Space.add.Goals as goal

pub returns-in_err-check_bounds-clause-found : goal.returns-in_err-check_bounds-clause-found
unfolding added
returns-in_err-check_bounds-clause-found c = λ s e shows stands.
    passed_on _ c.from_residual.result c.in_err-check_bounds.field-0.0 _ c.from_residual.ensures.1
    (subst (Fails c.in_err-check_bounds.field-0.0) (sym (kept_is bounded e (placed s e c.args.standing.named)))
    (fails_bind (kept bounded e (tt {0})) _ _ (c.in_err-check_bounds.ensures e stands)))

pub returns-clause-found : goal.returns-clause-found
unfolding added
returns-clause-found c = λ s e shows stands. record {
  value = placed s e c.args.standing.named;
  given_is = kept_is bounded e (placed s e c.args.standing.named) ∙ ap (λ r. r >>= λ u. Ok (placed s e c.args.standing.named)) (c.in_ok-check_bounds.ensures e stands);
  shown = c.in_ok-put.ensures.placed c.args.table.now s e shows stands (c.sort_at-sort.ensures e stands);
}
