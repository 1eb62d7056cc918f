use Rattle.std.proofs.Common.{ap, map, subst, sym, ◌∙◌, Bor}
use Rattle.comp_declare.specs.Outer.{AllShowSpaces}
use Rattle.comp_declare.proofs.IndexLaws.{core_found}
use Rattle.comp_declare.proofs.OuterAliasLaws.{core_out, core_out_fails}
use Rattle.comp_scope.specs.Aliases.{outer_scope}
use Rattle.comp_space.specs.declared.space.Space.{Space}
use Rattle.comp_space.specs.CoreStandings.{ShowsCore}
use Rattle.comp_space.specs.Faults.{Finds}
use Rattle.comp_space.specs.StandingLaws.{fails_same, passed_on}
use Rattle.comp_declare.proofs.outer_aliases.core_type_around.Goals as goal

pub returns-in_err-outer : goal.returns-in_err-outer
returns-in_err-outer c = λ table ss shows.
    passed_on _ c.from_residual-in_err-outer.result c.in_err-outer.field-0.0 _ c.from_residual-in_err-outer.ensures.1
    (fails_same (outer_scope ss c.args.count) _ _ (λ fault. core_out_fails ss c.args.count c.args.index fault)
    (c.in_err-outer.ensures table ss (subst (λ xs. AllShowSpaces table xs ss) (sym (ap (map (λ (s : Bor Space). s.now)) c.deref.ensures.value ∙ c.in_ok-scopes.ensures)) shows)))

pub returns : goal.returns
returns c = λ table ss shows.
    let f = c.in_ok-outer.ensures table ss (subst (λ xs. AllShowSpaces table xs ss) (sym (ap (map (λ (s : Bor Space). s.now)) c.deref.ensures.value ∙ c.in_ok-scopes.ensures)) shows) in
    subst (Finds (ShowsCore table) c.core_type_at.result) (sym (core_out ss c.args.count c.args.index f.value f.given_is))
    (core_found table c.in_ok-outer.outer.space.now.core_types.items f.value.spaces.core_types c.args.index c.core_type_at.result f.shown.spaces.core_types (rw (sym c.deref-2.ensures.value) c.core_type_at.ensures))
