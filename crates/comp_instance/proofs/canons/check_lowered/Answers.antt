use Rattle.std.proofs.Common.{rules, ap, sym}
use Rattle.warg_values.specs.Reading.{◌>>=◌}
use Rattle.comp_scope.specs.Canons.{with_options}
use Rattle.comp_scope.specs.Spaces.{at_index}
use Rattle.comp_space.specs.StandingLaws.{fails_bind, passed_on_as}
use Rattle.comp_space.specs.Standings.{Shows}
use Rattle.comp_table.specs.Plain.{plain_entity}
use Rattle.comp_instance.proofs.CoreLaws.{at_fails_below, at_goes_below, gives_from}
use Rattle.comp_instance.proofs.canons.check_lowered.Goals as goal

pub returns-in_err-check_below : goal.returns-in_err-check_below
returns-in_err-check_below c = λ table s shows.
    passed_on_as _ c.from_residual.result c.in_err-check_below.field-0.0 _ c.from_residual.ensures.1
    (fails_bind (at_index s.funcs c.args.func) (λ of. with_options s c.args.options.now) c.in_err-check_below.field-0.0
    (at_fails_below (Shows plain_entity table) c.args.space.now.funcs.items s.funcs c.args.func c.len.result tt shows.funcs (search rules) c.in_err-check_below.field-0.0 c.in_err-check_below.ensures))

pub returns : goal.returns
returns c = λ table s shows.
    let a = at_goes_below (Shows plain_entity table) c.args.space.now.funcs.items s.funcs c.args.func c.len.result tt shows.funcs (search rules) c.in_ok-check_below.ensures in
    gives_from s c.check_options.result _ _ (sym (ap (λ r. r >>= λ of. with_options s c.args.options.now) a.1)) (c.check_options.ensures table s shows)
