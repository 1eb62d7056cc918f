use Rattle.std.proofs.Common.{subst, sym}
use Rattle.comp_scope.specs.Spaces.{at_index}
use Rattle.comp_scope.specs.Values.{as_resource, resource_of}
use Rattle.comp_space.specs.Faults.{fault_of}
use Rattle.warg_values.specs.Answers.{Gives}
use Rattle.warg_values.specs.Reading.{◌>>=◌}
use Rattle.comp_space.specs.StandingLaws.{at_found, at_fails, fails_bind, fails_same, number_there, passed_on_as}
use Rattle.comp_space.proofs.parts.resource_of.Goals as goal

pub resource_standing-requires : goal.resource_standing-requires
resource_standing-requires c = number_there c.args.table.now c.args.types.now c.args.index c.in_ok-standing.standing c.requires c.in_ok-standing.ensures

pub returns-in_err-standing : goal.returns-in_err-standing
unfolding resource_of
returns-in_err-standing c = λ s shows.
    passed_on_as _ c.from_residual.result _ _ c.from_residual.ensures.1
    (fails_bind (at_index s.types c.args.index) as_resource _
    (fails_same (at_index c.args.types.now c.args.index) _ _ (λ fault. at_fails c.args.table.now c.args.types.now s.types c.args.index fault shows) c.in_err-standing.ensures))

pub returns : goal.returns
unfolding resource_of
returns c = λ s shows.
    let f = at_found c.args.table.now c.args.types.now s.types c.args.index c.in_ok-standing.standing shows c.in_ok-standing.ensures in
    subst (λ r. Gives fault_of (λ x. (x.0, x.1)) c.resource_standing.result (r >>= as_resource)) (sym f.given_is)
    (subst (λ b. Gives fault_of (λ x. (x.0, x.1)) c.resource_standing.result (as_resource (f.value.0, b))) f.shown.named_is (c.resource_standing.ensures f.value.0 f.shown.stands))
