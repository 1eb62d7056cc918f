use Rattle.std.proofs.Common.{rules, refl}
use Rattle.comp_scope.specs.Canons.{with_options}
use Rattle.comp_space.specs.StandingLaws.{passed_on_as}
use Rattle.comp_instance.proofs.CoreLaws.{no_rows, option_fails, option_goes}
use Rattle.comp_instance.proofs.canons.check_options.Goals as goal

pub returns-in_err-check_option : goal.returns-in_err-check_option
returns-in_err-check_option c = λ table s shows.
    passed_on_as _ c.from_residual.result c.in_err-check_option.field-0.0 _ c.from_residual.ensures.1
    (option_fails s c.args.options.now c.loop-option.option-index _ (search rules) (c.loop-option.invariant table s shows) c.in_err-check_option.field-0.0 (c.in_err-check_option.ensures table s shows))

pub loop-option-preserved : goal.loop-option-preserved
loop-option-preserved c = λ table s shows.
    option_goes s c.args.options.now c.loop-option.option-index _ (search rules) (c.loop-option.invariant table s shows) (c.in_ok-check_option.ensures table s shows)

pub returns : goal.returns
unfolding with_options
returns c = λ table s shows. no_rows (λ xs. with_options s xs) s c.args.options.now c.loop-option.option-index (search rules) refl (c.loop-option.invariant table s shows)
