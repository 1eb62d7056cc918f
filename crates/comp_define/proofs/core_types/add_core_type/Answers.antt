use Rattle.std.proofs.Common.{◌∷◌, ◌∙◌, ap, map, subst, sym, Bor, List, Result, Ok}
use Rattle.warg_values.specs.Reading.{◌>>=◌}
use Rattle.comp_define.proofs.ScopeLaws.{own_core_scopes_show, scopes_are_there}
use Rattle.comp_entity.specs.Bounds.{ShapeFault, bounded}
use Rattle.comp_format.specs.Views.{core_tree}
use Rattle.comp_scope.specs.Aliases.{core_scopes}
use Rattle.comp_scope.specs.CoreScopes.{core_type_of}
use Rattle.comp_scope.specs.Spaces.{KnownCoreType, with_core_type}
use Rattle.comp_space.specs.CoreStandings.{ScopesAreThere, ScopesShow}
use Rattle.comp_space.specs.declared.core_types.CoreStanding.{CoreStanding}
use Rattle.comp_space.specs.SpaceLaws.{space_kept}
use Rattle.comp_space.specs.StandingLaws.{fails_bind, on_err_always, passed_on}
use Rattle.comp_define.proofs.core_types.add_core_type.Goals as goal

pub core_type_of-requires : goal.core_type_of-requires
core_type_of-requires c =
    let is = ap (map (λ (s : Bor (List CoreStanding)). s.now)) c.deref-2.ensures.value ∙ c.in_ok-scopes.ensures in
    let ss = c.requires.around.0 in
    let s = c.requires.own.0 in
    subst (ScopesAreThere c.args.table.now) (λ i. sym c.deref.ensures.value i ∷ sym is i)
    (scopes_are_there c.args.table.now (c.args.space.now.core_types.items ∷ map (λ s. s.now.core_types.items) c.args.around.now) (core_scopes (s ∷ ss)) (own_core_scopes_show (λ s. s.now) c.args.table.now c.args.space.now s c.args.around.now ss c.requires.own.1 c.requires.around.1))

pub returns-in_err-known-clause-found : goal.returns-in_err-known-clause-found
returns-in_err-known-clause-found c = λ ss s around shows.
    let is = ap (map (λ (s : Bor (List CoreStanding)). s.now)) c.deref-2.ensures.value ∙ c.in_ok-scopes.ensures in
    passed_on _ c.from_residual-in_err-known.result c.in_err-known.field-0.0 _ c.from_residual-in_err-known.ensures.1
    (fails_bind (core_type_of bounded (core_scopes (s ∷ ss)) (core_tree c.args.ty.now)) _ _
    (c.in_err-known.ensures.found (core_scopes (s ∷ ss)) (subst (λ xss. ScopesShow c.args.table.now xss (core_scopes (s ∷ ss))) (λ i. sym c.deref.ensures.value i ∷ sym is i) (own_core_scopes_show (λ s. s.now) c.args.table.now c.args.space.now s c.args.around.now ss shows around))))

pub returns-in_err-known-clause-unchanged : goal.returns-in_err-known-clause-unchanged
returns-in_err-known-clause-unchanged c = λ s shows. on_err_always c.from_residual-in_err-known.result (space_kept c.args.table.now c.core_type_of.new.table c.core_type_of.ensures.extends c.args.space.now s shows)

pub returns-in_err-add_known-clause-unchanged : goal.returns-in_err-add_known-clause-unchanged
returns-in_err-add_known-clause-unchanged c = λ s shows.
    on_err_always c.from_residual-in_err-add_known.result (c.in_err-add_known.ensures.unchanged c.core_type_of.new.table s (space_kept c.args.table.now c.core_type_of.new.table c.core_type_of.ensures.extends c.args.space.now s shows))

pub returns-clause-found : goal.returns-clause-found
returns-clause-found c = λ ss s around shows.
    let is = ap (map (λ (s : Bor (List CoreStanding)). s.now)) c.deref-2.ensures.value ∙ c.in_ok-scopes.ensures in
    let f = c.in_ok-known.ensures.found (core_scopes (s ∷ ss)) (subst (λ xss. ScopesShow c.args.table.now xss (core_scopes (s ∷ ss))) (λ i. sym c.deref.ensures.value i ∷ sym is i) (own_core_scopes_show (λ s. s.now) c.args.table.now c.args.space.now s c.args.around.now ss shows around)) in
    let kept = space_kept c.args.table.now c.core_type_of.new.table c.core_type_of.ensures.extends c.args.space.now s shows in
    record {
      value = with_core_type s f.value;
      given_is = ap (λ (r : Result KnownCoreType ShapeFault). r >>= λ t. Ok (with_core_type s t)) f.given_is;
      shown = c.in_ok-add_known.ensures.added c.core_type_of.new.table s f.value kept f.shown;
    }
