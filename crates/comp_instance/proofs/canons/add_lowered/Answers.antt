use Rattle.std.proofs.Common.{ap, sym, subst, ◌∙◌, Ok}
use Rattle.warg_values.specs.Reading.{◌>>=◌}
use Rattle.comp_instance.specs.Lifted.{lowered_at}
use Rattle.comp_scope.specs.Canons.{with_one_core_func}
use Rattle.comp_space.specs.Faults.{Fails}
use Rattle.comp_space.specs.StandingLaws.{fails_bind, passed_on}
use Rattle.comp_instance.proofs.CanonLaws.{lower_is}
use Rattle.comp_instance.proofs.canons.add_lowered.Goals as goal

pub returns-in_err-check_lowered-clause-found : goal.returns-in_err-check_lowered-clause-found
returns-in_err-check_lowered-clause-found c = λ table s shows.
    passed_on _ c.from_residual.result c.in_err-check_lowered.field-0.0 _ c.from_residual.ensures.1
    (subst (Fails c.in_err-check_lowered.field-0.0) (sym (lower_is s c.args.func c.args.options.now))
    (fails_bind (lowered_at s c.args.func c.args.options.now) (λ t. Ok (with_one_core_func t)) c.in_err-check_lowered.field-0.0 (c.in_err-check_lowered.ensures table s shows)))

pub returns-clause-found : goal.returns-clause-found
returns-clause-found c = λ table s shows. record {
  value = with_one_core_func s;
  given_is = lower_is s c.args.func c.args.options.now ∙ ap (λ r. r >>= λ t. Ok (with_one_core_func t)) (c.in_ok-check_lowered.ensures table s shows);
  shown = c.in_ok-count_core_func.ensures.counted table s shows;
}
