use Rattle.std.proofs.Common.{ap, sym, ◌∷◌, ◌++◌, [], Ok, map, length}
use Rattle.warg_values.specs.Reading.{◌>>=◌}
use Rattle.comp_scope.specs.CoreScopes.{outer_core, with_module_decl}
use Rattle.comp_space.specs.CoreStandings.{ScopesShow, standing_out}
use Rattle.comp_space.specs.CoreLaws.{cores_push, out_fails, out_found, out_there, with_type}
use Rattle.comp_space.specs.StandingLaws.{fails_bind, fails_same, passed_on}
use Rattle.comp_space.proofs.core_types.add_outer.Goals as goal

pub returns-in_err-known-clause-found : goal.returns-in_err-known-clause-found
unfolding with_module_decl
returns-in_err-known-clause-found c = λ ts scopes known around shows.
    let scopes-show : ScopesShow ts (c.args.own.now.types.items ∷ map (λ s. s.now) c.args.around.now) (known.types ∷ scopes) = (shows.types, around) in
    passed_on _ c.from_residual.result c.in_err-known.field-0.0 _ c.from_residual.ensures.1
    (fails_bind (outer_core (known.types ∷ scopes) c.args.count c.args.index) _ _
    (fails_same (standing_out (c.args.own.now.types.items ∷ map (λ s. s.now) c.args.around.now) c.args.count c.args.index) _ _ (λ fault. out_fails ts (c.args.own.now.types.items ∷ map (λ s. s.now) c.args.around.now) (known.types ∷ scopes) c.args.count c.args.index fault scopes-show)
    (rw (sym c.deref.ensures.value) c.in_err-known.ensures)))

pub returns-clause-there : goal.returns-clause-there
returns-clause-there c = λ ts own around.
    record {
      types = rw c.in_ok-push.ensures.items (cores_push (length ts) c.args.own.now.types.items c.in_ok-known.known own.types
          (out_there ts (c.args.own.now.types.items ∷ map (λ s. s.now) c.args.around.now) c.args.count c.args.index c.in_ok-known.known (own.types, around) (rw (sym c.deref.ensures.value) c.in_ok-known.ensures)));
      imports = own.imports;
      exports = own.exports;
    }

pub returns-clause-found : goal.returns-clause-found
unfolding with_module_decl
returns-clause-found c = λ ts scopes known around shows.
    let f = out_found ts (c.args.own.now.types.items ∷ map (λ s. s.now) c.args.around.now) (known.types ∷ scopes) c.args.count c.args.index c.in_ok-known.known (shows.types, around) (rw (sym c.deref.ensures.value) c.in_ok-known.ensures) in
    record {
      value = record known { types = known.types ++ f.value ∷ [] };
      given_is = ap (λ r. r >>= λ t. Ok (record known { types = known.types ++ t ∷ [] })) f.given_is;
      shown = with_type ts c.args.own.now known c.push.new.self c.in_ok-known.known f.value shows f.shown c.in_ok-push.ensures.items;
    }
