use Rattle.std.proofs.Common.{refl, true, ap, subst, sym, ◌∙◌, Ok}
use Rattle.warg_values.specs.Reading.{◌>>=◌}
use Rattle.comp_entity.specs.Entity.{IsModule}
use Rattle.comp_scope.specs.CoreScopes.{as_module}
use Rattle.comp_scope.specs.Descriptions as scope
use Rattle.comp_scope.specs.Descriptions.{described}
use Rattle.comp_scope.specs.Spaces.{at_index}
use Rattle.comp_space.specs.CoreStandings.{ShowsCore}
use Rattle.comp_space.specs.Faults.{Fails}
use Rattle.comp_space.specs.StandingLaws.{fails_bind, fails_same, pairwise_at, pairwise_fails, passed_on}
use Rattle.comp_declare.proofs.descriptions.described_module.Goals as goal

pub returns-in_err-known : goal.returns-in_err-known
unfolding described
returns-in_err-known c = λ table s new shows.
    passed_on _ c.from_residual.result c.in_err-known.field-0.0 _ c.from_residual.ensures.1
    (fails_bind (at_index s.core_types c.args.index) _ _
    (fails_same (at_index c.args.space.now.core_types.items c.args.index) _ _ (λ fault. pairwise_fails (ShowsCore table) c.args.space.now.core_types.items s.core_types c.args.index fault shows.core_types) (rw (sym c.deref.ensures.value) c.in_err-known.ensures)))

pub returns-in_err-number : goal.returns-in_err-number
unfolding described
returns-in_err-number c = λ table s new shows.
    let f = pairwise_at (ShowsCore table) c.args.space.now.core_types.items s.core_types c.args.index c.in_ok-known.known shows.core_types (rw (sym c.deref.ensures.value) c.in_ok-known.ensures) in
    passed_on _ c.from_residual-in_err-number.result c.in_err-number.field-0.0 _ c.from_residual-in_err-number.ensures.1
    (subst (λ r. Fails c.in_err-number.field-0.0 (r >>= λ t. as_module t >>= λ m. Ok (scope.plainly (IsModule m) true))) (sym f.given_is)
    (fails_bind (as_module f.value) _ _ (c.in_err-number.ensures.found table f.value f.shown)))

pub returns : goal.returns
unfolding described
returns c = λ table s new shows.
    let f = pairwise_at (ShowsCore table) c.args.space.now.core_types.items s.core_types c.args.index c.in_ok-known.known shows.core_types (rw (sym c.deref.ensures.value) c.in_ok-known.ensures) in
    let g = c.in_ok-number.ensures.found table f.value f.shown in
    rw c.plainly.ensures (record {
      value = scope.plainly (IsModule g.value) true;
      given_is = ap (λ r. r >>= λ t. as_module t >>= λ m. Ok (scope.plainly (IsModule m) true)) f.given_is ∙ ap (λ r. r >>= λ m. Ok (scope.plainly (IsModule m) true)) g.given_is;
      shown = record { standing = record { stands = g.shown; named_is = refl }; brings = refl };
    })
