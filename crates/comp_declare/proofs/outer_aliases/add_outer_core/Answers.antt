use Rattle.std.proofs.Common.{ap, ◌∷◌, Ok}
use Rattle.warg_values.specs.Reading.{◌>>=◌}
use Rattle.comp_declare.proofs.OuterAliasLaws.{shows_one_core_type}
use Rattle.comp_scope.specs.Aliases.{core_scopes, outer_alias}
use Rattle.comp_scope.specs.CoreScopes.{outer_core}
use Rattle.comp_scope.specs.Spaces.{with_core_type}
use Rattle.comp_space.specs.StandingLaws.{fails_bind, passed_on}
use Rattle.comp_declare.proofs.outer_aliases.add_outer_core.Goals as goal

pub returns-in_err-known-clause-found : goal.returns-in_err-known-clause-found
unfolding outer_alias
returns-in_err-known-clause-found c = λ table ss s around shows.
    passed_on _ c.from_residual.result c.in_err-known.field-0.0 _ c.from_residual.ensures.1
    (fails_bind (outer_core (core_scopes (s ∷ ss)) c.args.count c.args.index) _ _ (c.in_err-known.ensures table (s ∷ ss) (shows, around)))

pub returns-clause-found : goal.returns-clause-found
unfolding outer_alias
returns-clause-found c = λ table ss s around shows.
    let f = c.in_ok-known.ensures table (s ∷ ss) (shows, around) in
    record {
      value = with_core_type s f.value;
      given_is = ap (λ r. r >>= λ t. Ok (with_core_type s t)) f.given_is;
      shown = shows_one_core_type table c.args.space.now s c.push.new.self c.in_ok-known.known f.value shows f.shown c.in_ok-push.ensures.items;
    }
