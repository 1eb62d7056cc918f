use Rattle.std.proofs.Common.{rules, ◌≡◌, ◌∷◌, ◌∙◌, ap, map, subst, sym, refl, true, false, Bor, List, Result, Ok, slice_index_or}
use Rattle.std.proofs.lemmas.List.{take_all, take_more}
use Rattle.warg_values.specs.Reading.{◌>>=◌}
use Rattle.comp_declare.specs.Outer.{AllShowSpaces}
use Rattle.comp_declare.specs.Scopes.{ShowsScope}
use Rattle.comp_define.proofs.ScopeLaws.{as_many, shows_with_spaces, spaces_kept}
use Rattle.comp_define.proofs.TreeLaws.{component_is, instance_is, type_component, type_defined, type_func, type_instance, type_resource, decl_alias, decl_core_ty, decl_export, decl_import, decl_ty}
use Rattle.comp_define.proofs.TypeLaws.{component_added, declares_fails, declares_push, instance_added, not_opened, opened}
use Rattle.comp_define.specs.ScopeTypes.{ShowsEntity, declared_type, type_of_scope}
use Rattle.comp_entity.specs.Bounds.{ShapeFault, bounded}
use Rattle.comp_format.specs.declared.types.Decl.{Decl}
use Rattle.comp_format.specs.Definitions as tree
use Rattle.comp_format.specs.Definitions.{decls_of}
use Rattle.comp_format.specs.Views.{component_type_tree, decl_tree, instance_type_tree}
use Rattle.comp_scope.specs.Spaces.{Known, added, nothing_known}
use Rattle.comp_scope.specs.Types.{with_decl, with_decls, with_spaces, with_type}
use Rattle.comp_space.specs.declared.error.ScopeError.TheVariants as errors
use Rattle.comp_space.specs.declared.space.Space.{Space}
use Rattle.comp_space.specs.Faults.{Fails, Finds, Found}
use Rattle.comp_space.specs.SpaceLaws.{space_kept}
use Rattle.comp_space.specs.SpaceViews.{ShowsSpaces}
use Rattle.comp_space.specs.StandingLaws.{fails_bind, fails_same, finds_map, found_bind, on_err_always, passed_on}
use Rattle.comp_table.specs.StandLaws.{grows_not, grows_on}
use Rattle.comp_define.proofs.declarations.+declaring.Goals as goal

-- ---- types

pub add_type-returns-in-Defined-clause-found : goal.add_type-returns-in-Defined-clause-found
add_type-returns-in-Defined-clause-found t c = λ ss s around shows. rw (c.in-Defined.is, type_defined) (c.add_value_type.ensures.found ss s shows)

pub add_type-returns-in-Func-clause-found : goal.add_type-returns-in-Func-clause-found
add_type-returns-in-Func-clause-found t c = λ ss s around shows. rw (c.in-Func.is, type_func) (c.add_func_type.ensures.found ss s shows)

pub add_type-returns-in-Component-clause-found : goal.add_type-returns-in-Component-clause-found
add_type-returns-in-Component-clause-found t c = λ ss s around shows. rw (c.in-Component.is, type_component) (c.add_component_type.ensures.found ss s around shows)

pub add_type-returns-in-Instance-clause-found : goal.add_type-returns-in-Instance-clause-found
add_type-returns-in-Instance-clause-found t c = λ ss s around shows. rw (c.in-Instance.is, type_instance) (c.add_instance_type.ensures.found ss s around shows)

pub add_type-returns-in-Resource-clause-found : goal.add_type-returns-in-Resource-clause-found
add_type-returns-in-Resource-clause-found t c = λ ss s around shows. rw (c.in-Resource.is, type_resource) (c.add_resource.ensures.found ss s shows)

-- ---- types that are scopes

pub add_component_type-returns-in_err-number-clause-found : goal.add_component_type-returns-in_err-number-clause-found
add_component_type-returns-in_err-number-clause-found t c = λ ss s around shows.
    let is : component_type_tree c.args.ty.now ≡ decls_of (map decl_tree c.deref.result.now) = component_is c.args.ty.now ∙ ap (λ (ds : List Decl). decls_of (map decl_tree ds)) (sym c.deref.ensures.value) in
    passed_on _ c.from_residual.result c.in_err-number.field-0.0 _ c.from_residual.ensures.1
    (subst (Fails c.in_err-number.field-0.0) (sym (ap (λ ds. with_type bounded ss s (tree.Component ds)) is ∙ component_added ss s (decls_of (map decl_tree c.deref.result.now))))
    (fails_bind (declared_type bounded (s ∷ ss) true (decls_of (map decl_tree c.deref.result.now))) _ _ (c.in_err-number.ensures.found (s ∷ ss) (shows, around))))

pub add_component_type-returns-in_err-number-clause-unchanged : goal.add_component_type-returns-in_err-number-clause-unchanged
add_component_type-returns-in_err-number-clause-unchanged t c = λ s shows.
    on_err_always c.from_residual.result (space_kept c.args.table.now c.type_within.new.table c.type_within.ensures.extends c.args.space.now s shows)

pub add_component_type-add-requires : goal.add_component_type-add-requires
add_component_type-add-requires t c = (c.in_ok-number.ensures.found (c.requires.own.0 ∷ c.requires.around.0) (c.requires.own.1, c.requires.around.1)).shown.there

pub add_component_type-returns-clause-found : goal.add_component_type-returns-clause-found
add_component_type-returns-clause-found t c = λ ss s around shows.
    let is : component_type_tree c.args.ty.now ≡ decls_of (map decl_tree c.deref.result.now) = component_is c.args.ty.now ∙ ap (λ (ds : List Decl). decls_of (map decl_tree ds)) (sym c.deref.ensures.value) in
    let f = c.in_ok-number.ensures.found (s ∷ ss) (shows, around) in
    let kept = space_kept c.args.table.now c.type_within.new.table c.type_within.ensures.extends c.args.space.now s shows in
    subst (Finds (λ u. ShowsSpaces c.type_within.new.table c.add.new.self) c.add.result) (sym (ap (λ ds. with_type bounded ss s (tree.Component ds)) is ∙ component_added ss s (decls_of (map decl_tree c.deref.result.now))))
    (found_bind (ShowsEntity c.type_within.new.table) (λ u. ShowsSpaces c.type_within.new.table c.add.new.self) c.in_ok-number.number (declared_type bounded (s ∷ ss) true (decls_of (map decl_tree c.deref.result.now))) (λ e. added bounded s e true) c.add.result f
    (c.add.ensures.found s f.value kept f.shown))

pub add_component_type-returns-clause-unchanged : goal.add_component_type-returns-clause-unchanged
add_component_type-returns-clause-unchanged t c = λ s shows. c.add.ensures.unchanged s (space_kept c.args.table.now c.type_within.new.table c.type_within.ensures.extends c.args.space.now s shows)

pub add_instance_type-returns-in_err-number-clause-found : goal.add_instance_type-returns-in_err-number-clause-found
add_instance_type-returns-in_err-number-clause-found t c = λ ss s around shows.
    let is : instance_type_tree c.args.ty.now ≡ decls_of (map decl_tree c.deref.result.now) = instance_is c.args.ty.now ∙ ap (λ (ds : List Decl). decls_of (map decl_tree ds)) (sym c.deref.ensures.value) in
    passed_on _ c.from_residual.result c.in_err-number.field-0.0 _ c.from_residual.ensures.1
    (subst (Fails c.in_err-number.field-0.0) (sym (ap (λ ds. with_type bounded ss s (tree.Instance ds)) is ∙ instance_added ss s (decls_of (map decl_tree c.deref.result.now))))
    (fails_bind (declared_type bounded (s ∷ ss) false (decls_of (map decl_tree c.deref.result.now))) _ _ (c.in_err-number.ensures.found (s ∷ ss) (shows, around))))

pub add_instance_type-returns-in_err-number-clause-unchanged : goal.add_instance_type-returns-in_err-number-clause-unchanged
add_instance_type-returns-in_err-number-clause-unchanged t c = λ s shows.
    on_err_always c.from_residual.result (space_kept c.args.table.now c.type_within.new.table c.type_within.ensures.extends c.args.space.now s shows)

pub add_instance_type-add-requires : goal.add_instance_type-add-requires
add_instance_type-add-requires t c = (c.in_ok-number.ensures.found (c.requires.own.0 ∷ c.requires.around.0) (c.requires.own.1, c.requires.around.1)).shown.there

pub add_instance_type-returns-clause-found : goal.add_instance_type-returns-clause-found
add_instance_type-returns-clause-found t c = λ ss s around shows.
    let is : instance_type_tree c.args.ty.now ≡ decls_of (map decl_tree c.deref.result.now) = instance_is c.args.ty.now ∙ ap (λ (ds : List Decl). decls_of (map decl_tree ds)) (sym c.deref.ensures.value) in
    let f = c.in_ok-number.ensures.found (s ∷ ss) (shows, around) in
    let kept = space_kept c.args.table.now c.type_within.new.table c.type_within.ensures.extends c.args.space.now s shows in
    subst (Finds (λ u. ShowsSpaces c.type_within.new.table c.add.new.self) c.add.result) (sym (ap (λ ds. with_type bounded ss s (tree.Instance ds)) is ∙ instance_added ss s (decls_of (map decl_tree c.deref.result.now))))
    (found_bind (ShowsEntity c.type_within.new.table) (λ u. ShowsSpaces c.type_within.new.table c.add.new.self) c.in_ok-number.number (declared_type bounded (s ∷ ss) false (decls_of (map decl_tree c.deref.result.now))) (λ e. added bounded s e true) c.add.result f
    (c.add.ensures.found s f.value kept f.shown))

pub add_instance_type-returns-clause-unchanged : goal.add_instance_type-returns-clause-unchanged
add_instance_type-returns-clause-unchanged t c = λ s shows. c.add.ensures.unchanged s (space_kept c.args.table.now c.type_within.new.table c.type_within.ensures.extends c.args.space.now s shows)

-- ---- a scope more

pub type_within-declared_type-requires : goal.type_within-declared_type-requires
type_within-declared_type-requires t c =
    let is = ap (map (λ (s : Bor Space). s.now)) c.deref.ensures.value ∙ c.in_ok-scopes.ensures in
    (search rules, (c.requires.own.0 ∷ c.requires.around.0, subst (λ xs. AllShowSpaces c.args.table.now xs (c.requires.own.0 ∷ c.requires.around.0)) (sym is) (c.requires.own.1, c.requires.around.1)))

pub type_within-returns-clause-found : goal.type_within-returns-clause-found
type_within-returns-clause-found t c = λ ss shows.
    let is = ap (map (λ (s : Bor Space). s.now)) c.deref.ensures.value ∙ c.in_ok-scopes.ensures in
    c.declared_type.ensures.found ss (subst (λ xs. AllShowSpaces c.args.table.now xs ss) (sym is) shows)

pub declared_type-returns-then-not-may_open-clause-found : goal.declared_type-returns-then-not-may_open-clause-found
declared_type-returns-then-not-may_open-clause-found t c = λ ss shows.
    not_opened ss _ (with_decls bounded ss (nothing_known c.args.is_closed) (decls_of (map decl_tree c.args.decls.now)) >>= λ k. Ok (type_of_scope c.args.is_closed k)) (as_many (λ s. s.now) c.args.table.now c.args.around.now ss shows) (sym c.may_open.ensures ∙ c.if-not-may_open.true)

pub declared_type-returns-in_err-scope-clause-found : goal.declared_type-returns-in_err-scope-clause-found
declared_type-returns-in_err-scope-clause-found t c = λ ss shows.
    let is_open = opened ss _ (with_decls bounded ss (nothing_known c.args.is_closed) (decls_of (map decl_tree c.args.decls.now)) >>= λ k. Ok (type_of_scope c.args.is_closed k)) (as_many (λ s. s.now) c.args.table.now c.args.around.now ss shows) (sym c.may_open.ensures ∙ c.if-not-may_open.false) in
    passed_on _ c.from_residual.result c.in_err-scope.field-0.0 _ c.from_residual.ensures.1
    (subst (Fails c.in_err-scope.field-0.0) (sym is_open)
    (fails_bind (with_decls bounded ss (nothing_known c.args.is_closed) (decls_of (map decl_tree c.args.decls.now))) _ _ (c.in_err-scope.ensures.found ss shows)))

pub declared_type-type_of_scope-requires : goal.declared_type-type_of_scope-requires
declared_type-type_of_scope-requires t c =
    let f = c.in_ok-scope.ensures.found c.requires.0 c.requires.1 in (f.value, f.shown)

pub declared_type-returns-in_err-number-clause-found : goal.declared_type-returns-in_err-number-clause-found
declared_type-returns-in_err-number-clause-found t c = λ ss shows. passed_on _ c.from_residual-in_err-number.result errors.Memory _ c.from_residual-in_err-number.ensures.1 tt

pub declared_type-returns-clause-found : goal.declared_type-returns-clause-found
declared_type-returns-clause-found t c = λ ss shows.
    let is_open = opened ss _ (with_decls bounded ss (nothing_known c.args.is_closed) (decls_of (map decl_tree c.args.decls.now)) >>= λ k. Ok (type_of_scope c.args.is_closed k)) (as_many (λ s. s.now) c.args.table.now c.args.around.now ss shows) (sym c.may_open.ensures ∙ c.if-not-may_open.false) in
    let f = c.in_ok-scope.ensures.found ss shows in
    record {
      value = type_of_scope c.args.is_closed f.value;
      given_is = is_open ∙ ap (λ (r : Result Known ShapeFault). r >>= λ (k : Known). Ok (type_of_scope c.args.is_closed k)) f.given_is;
      shown = c.in_ok-number.ensures.number f.value f.shown;
    }

-- ---- declarations

pub declared-loop-decl-init : goal.declared-loop-decl-init
unfolding with_decls
declared-loop-decl-init t c = record {
  extends = grows_not _;
  own = (nothing_known c.args.is_closed, c.new-scope.ensures c.args.table.now);
  around = c.requires;
  found = λ ss around. record { value = nothing_known c.args.is_closed; given_is = refl; shown = c.new-scope.ensures c.args.table.now };
}

pub declared-returns-in_err-add_decl-clause-extends : goal.declared-returns-in_err-add_decl-clause-extends
declared-returns-in_err-add_decl-clause-extends t c = grows_on _ _ _ c.loop-decl.invariant.extends c.add_decl.ensures.extends

pub declared-returns-in_err-add_decl-clause-found : goal.declared-returns-in_err-add_decl-clause-found
declared-returns-in_err-add_decl-clause-found t c = λ ss around.
    let f = c.loop-decl.invariant.found ss around in
    let kept = spaces_kept c.args.table.now c.loop-decl.table c.loop-decl.invariant.extends (map (λ s. s.now) c.args.around.now) ss around in
    passed_on _ c.from_residual.result c.in_err-add_decl.field-0.0 _ c.from_residual.ensures.1
    (fails_same (with_decl bounded ss f.value (decl_tree c.decl-item.result)) _ _
    (λ fault e. declares_fails ss (nothing_known c.args.is_closed) f.value c.args.decls.now c.loop-decl.decl-index c.decl-item.result fault (search rules) f.given_is (ap (λ x. with_decl bounded ss f.value (decl_tree x)) (sym c.decl-item.is) ∙ e))
    (c.in_err-add_decl.ensures.found ss f.value kept f.shown))

pub declared-returns-clause-found : goal.declared-returns-clause-found
declared-returns-clause-found t c = λ ss around.
    subst (λ ds. Found (ShowsScope c.loop-decl.table) c.loop-decl.scope (with_decls bounded ss (nothing_known c.args.is_closed) (decls_of (map decl_tree ds)))) (take_all c.loop-decl.decl-index c.args.decls.now (search rules)) (c.loop-decl.invariant.found ss around)

pub declared-loop-decl-preserved : goal.declared-loop-decl-preserved
declared-loop-decl-preserved t c = record {
  extends = grows_on _ _ _ c.loop-decl.invariant.extends c.add_decl.ensures.extends;
  own =
      let f = c.in_ok-add_decl.ensures.found c.loop-decl.invariant.around.0 c.loop-decl.invariant.own.0 c.loop-decl.invariant.around.1 c.loop-decl.invariant.own.1 in
      (f.value, f.shown);
  around = (c.loop-decl.invariant.around.0, spaces_kept c.loop-decl.table c.add_decl.new.table c.add_decl.ensures.extends (map (λ s. s.now) c.args.around.now) c.loop-decl.invariant.around.0 c.loop-decl.invariant.around.1);
  found = λ ss around.
      let f = c.loop-decl.invariant.found ss around in
      let kept = spaces_kept c.args.table.now c.loop-decl.table c.loop-decl.invariant.extends (map (λ s. s.now) c.args.around.now) ss around in
      let g = c.in_ok-add_decl.ensures.found ss f.value kept f.shown in
      record {
        value = g.value;
        given_is = ap (λ ds. with_decls bounded ss (nothing_known c.args.is_closed) (decls_of (map decl_tree ds))) (take_more c.args.decls.now c.loop-decl.decl-index c.decl-item.result (search rules))
            ∙ declares_push ss (nothing_known c.args.is_closed) _ _
            ∙ ap (λ (r : Result Known ShapeFault). r >>= λ n. with_decl bounded ss n (decl_tree (slice_index_or c.args.decls.now c.loop-decl.decl-index c.decl-item.result))) f.given_is
            ∙ ap (λ x. with_decl bounded ss f.value (decl_tree x)) (sym c.decl-item.is) ∙ g.given_is;
        shown = g.shown;
      };
}

-- ---- one declaration

pub add_decl-returns-in-CoreTy-clause-found : goal.add_decl-returns-in-CoreTy-clause-found
add_decl-returns-in-CoreTy-clause-found t c = λ ss k around shows. rw (c.in-CoreTy.is, decl_core_ty) (c.add_declared_core_type.ensures.found ss k around shows)

pub add_decl-returns-in-Ty-clause-found : goal.add_decl-returns-in-Ty-clause-found
add_decl-returns-in-Ty-clause-found t c = λ ss k around shows. rw (c.in-Ty.is, decl_ty) (c.add_declared_type.ensures.found ss k around shows)

pub add_decl-returns-in-Alias-clause-found : goal.add_decl-returns-in-Alias-clause-found
add_decl-returns-in-Alias-clause-found t c = λ ss k around shows. rw (c.in-Alias.is, decl_alias) (c.add_declared_alias.ensures.found ss k around shows)

pub add_decl-returns-in-Import-clause-found : goal.add_decl-returns-in-Import-clause-found
unfolding with_decl
add_decl-returns-in-Import-clause-found t c = λ ss k around shows. rw (c.in-Import.is, decl_import) (c.import.ensures.found k shows)

pub add_decl-returns-in-Export-clause-found : goal.add_decl-returns-in-Export-clause-found
unfolding with_decl
add_decl-returns-in-Export-clause-found t c = λ ss k around shows. rw (c.in-Export.is, decl_export) (c.declare_export.ensures.found k shows)

pub add_declared_type-returns-clause-found : goal.add_declared_type-returns-clause-found
unfolding with_decl
add_declared_type-returns-clause-found t c = λ ss k around shows.
    finds_map (λ u. ShowsSpaces c.add_type.new.table c.add_type.new.space) _ (with_spaces k) c.add_type.result _
    (λ u s spaces. shows_with_spaces c.args.table.now c.add_type.new.table c.add_type.ensures.extends c.args.scope.now k c.add_type.new.space s shows spaces)
    (c.add_type.ensures.found ss k.spaces around shows.spaces)
