use Rattle.std.proofs.Common.{◌≡◌, ◌∷◌, subst, sym, refl, Ok}
use Rattle.warg_values.specs.Reading.{◌>>=◌}
use Rattle.comp_define.proofs.ScopeLaws.{shows_with_spaces}
use Rattle.comp_define.specs.ScopeTypes.{with_core_type_of}
use Rattle.comp_entity.specs.Bounds.{bounded}
use Rattle.comp_format.specs.Definitions as tree
use Rattle.comp_format.specs.Views.{core_tree}
use Rattle.comp_scope.specs.Aliases.{core_scopes}
use Rattle.comp_scope.specs.CoreScopes.{core_type_of}
use Rattle.comp_scope.specs.Spaces.{with_core_type}
use Rattle.comp_scope.specs.Types.{with_decl, with_spaces}
use Rattle.comp_space.specs.Faults.{Finds}
use Rattle.comp_space.specs.SpaceViews.{ShowsSpaces}
use Rattle.comp_space.specs.StandingLaws.{finds_map, then_first}
use Rattle.comp_define.proofs.declarations.add_declared_core_type.Goals as goal

pub returns-clause-found : goal.returns-clause-found
unfolding with_decl
returns-clause-found c = λ ss k around shows.
    let is : with_decl bounded ss k (tree.CoreTy (core_tree c.args.ty.now)) ≡ (with_core_type_of bounded ss k.spaces (core_tree c.args.ty.now) >>= λ s. Ok (with_spaces k s)) =
    then_first (core_type_of bounded (core_scopes (k.spaces ∷ ss)) (core_tree c.args.ty.now)) _ (λ t. Ok (with_core_type k.spaces t)) (λ s. Ok (with_spaces k s)) (λ t. refl) in
    subst (Finds _ c.add_core_type.result) (sym is)
    (finds_map (λ u. ShowsSpaces c.add_core_type.new.table c.add_core_type.new.space) _ (with_spaces k) c.add_core_type.result _
    (λ u s spaces. shows_with_spaces c.args.table.now c.add_core_type.new.table c.add_core_type.ensures.extends c.args.scope.now k c.add_core_type.new.space s shows spaces)
    (c.add_core_type.ensures.found ss k.spaces around shows.spaces))
