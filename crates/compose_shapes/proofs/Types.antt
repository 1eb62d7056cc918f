-- Aliases and types that are read into a scope mention what may be mentioned there.
use Rattle.std.proofs.Common.{◌≡◌, ℕ, suc, Bool, true, false, List, [], ◌∷◌, length, Option, Some, None, refl, sym, ap, subst}
use Rattle.std.specs.Prelude.{IfOk, IfSome, if◌then◌else◌}
use Rattle.std.specs.List.{AllByRecursion}
use Rattle.comp_format.specs.declared.types.Alias.{Alias}
use Rattle.comp_format.specs.declared.types.Alias.TheVariants as alias
use Rattle.comp_format.specs.declared.types.CoreSort.{CoreSort}
use Rattle.comp_format.specs.declared.types.CoreSort.TheVariants as core
use Rattle.comp_format.specs.declared.types.Sort.{Sort}
use Rattle.comp_format.specs.declared.types.Sort.TheVariants as sort
use Rattle.comp_format.specs.Definitions as ty
use Rattle.comp_entity.specs.Bounds.{Bounds, Index, TooDeep, is_within}
use Rattle.comp_entity.specs.Entity.{made, Value, Resource, Func, Instance as TypeOfInstances, Component as TypeOfComponents, EntityTree, IsType, IsFunc, IsInstance, IsComponent, IsModule, IsOwnModule}
use Rattle.comp_entity.specs.Fits.{under}
use Rattle.comp_entity.specs.Names.{deeper, OfResource, in_entries, in_func, in_value}
use Rattle.comp_scope.specs.Aliases.{Outer, outer_scope, may_pass, from_outside, core_scopes, outer_item, outer_alias, as_instance, export_alias, core_alias, aliased}
use Rattle.comp_scope.specs.Closing.{closed}
use Rattle.comp_scope.specs.CoreScopes.{core_type_of, outer_core}
use Rattle.comp_scope.specs.Spaces.{Standing, Spaces, Known, nothing_known, at_index, item_or_fault, standing, entries_in}
use Rattle.comp_scope.specs.Types.{destroyed, with_type, with_decls, with_decl}
use Rattle.comp_scope.specs.Values.{value_of, func_of}
use Rattle.compose_left.specs.declared.spots.Thing.{Thing}
use Rattle.compose_needs.specs.Mentioned.{mentioned, outward, outwards}
use Rattle.compose_shapes.proofs.Formed.{DeclFormed, DeclsFormed, TypeFormed}
use Rattle.compose_shapes.proofs.Known.{AllGood, Good, IsKnown, Scope, at_resource, entity_changed, scope, under_good}
use Rattle.compose_shapes.proofs.Mentions.{called, Further, entries_out}
use Rattle.compose_shapes.proofs.Scopes.{AroundGood, OuterGood, around_closed, entries_closed, inward, made_here, outer_good}
use Rattle.compose_shapes.proofs.Standing.{SpacesGood, StandingGood, added_good, recounted, standing_good, with_core, with_module}
use Rattle.compose_shapes.proofs.Things.{joined, weaker}
use Rattle.compose_shapes.proofs.Tied.{entity_ordered}
use Rattle.compose_shapes.proofs.Values.{All, Anything, anything, func_good, index_ok, passed_ok, then_ok, together, value_good}
use Rattle.comp_format.specs.Definitions.{is_resource}
use Rattle.compose_shapes.proofs.Known.{plain_by}
use Rattle.compose_shapes.proofs.Reading.{KnownGood, below_ok, export_good, imported_good, nothing_good, spaces_too}

module _ (b : Bounds) where
  -- ---- aliases

  if_same : {X : Type 0} (b : Bool) (x : X) → (if b then x else x) ≡ x
  if_same true x = refl
  if_same false x = refl

  deeper_is : (distance : ℕ) (t : Thing) → plain_by (deeper distance) (deeper distance) t ≡ inward distance t
  deeper_is distance t =
      ap (called t.is_type) (if_same t.is_type (deeper distance (record { out = t.out; number = t.number })))

  module _ (c : Bool) (seen : List Thing) (ss : List Scope) where
    abbrev Spaced : Spaces → Type 0
    Spaced = SpacesGood c seen ss

    abbrev Stood : Standing → Type 0
    Stood = StandingGood (scope c seen ∷ ss)

    from_outside_good : (o : Outer) (e : EntityTree) → (l : OuterGood (scope c seen ∷ ss) o)
        → Good (scope l.is_closed l.seen ∷ l.rest) e → Good (scope c seen ∷ ss) (from_outside o.distance e)
    from_outside_good o e l h = (
      entity_changed (deeper o.distance) (deeper o.distance) (λ m. m) (IsKnown (scope l.is_closed l.seen ∷ l.rest))
          (IsKnown (scope c seen ∷ ss))
          (λ t k. subst (IsKnown (scope c seen ∷ ss)) (sym (deeper_is o.distance t)) (l.known t k)) e h.0,
      entity_ordered (deeper o.distance) (deeper o.distance) (λ m. m) 0 e h.1,
    )

    outer_item_good : (around : List Spaces) (s : Spaces) (kind : Sort) (count index : ℕ) → AroundGood ss around
        → Spaced s → IfOk (outer_item b around s kind count index) Spaced
    unfolding outer_item
    outer_item_good around s kind count index hs h =
        then_ok (OuterGood (scope c seen ∷ ss)) Spaced (outer_scope (s ∷ around) count) _
        (outer_good (scope c seen ∷ ss) (s ∷ around) count (h, hs)) (λ outer k.
        then_ok (StandingGood (scope k.is_closed k.seen ∷ k.rest)) Spaced (standing outer.spaces kind index) _
        (standing_good k.is_closed k.seen k.rest outer.spaces kind index k.spaces) (λ e l.
        passed_ok Spaced (may_pass outer.leaves_component e.0) Index _
        (added_good c seen ss b s (from_outside outer.distance e.0) e.1 h (from_outside_good outer e.0 k l))))

    outer_alias_good : (around : List Spaces) (s : Spaces) (kind : Sort) (count index : ℕ) → AroundGood ss around
        → Spaced s → IfOk (outer_alias b around s kind count index) Spaced
    unfolding outer_alias
    outer_alias_good around s (sort.Core core.Ty) count index hs h =
        then_ok Anything Spaced (outer_core (core_scopes (s ∷ around)) count index) _
        (anything (outer_core (core_scopes (s ∷ around)) count index)) (λ t k. with_core c seen ss s t h)
    outer_alias_good around s kind count index hs h = outer_item_good around s kind count index hs h

    instance_there : (st : Standing) → Stood st → IfOk (as_instance st) (AllGood (scope c seen ∷ ss))
    instance_there (IsInstance es, named) h = h
    instance_there (IsType t, named) h = tt
    instance_there (IsFunc f, named) h = tt
    instance_there (IsComponent is es, named) h = tt
    instance_there (IsModule m, named) h = tt
    instance_there (IsOwnModule, named) h = tt

    item_there : (o : Option Standing) → IfSome o (λ x. Good (scope c seen ∷ ss) x.0) → IfOk (item_or_fault o) Stood
    item_there None h = tt
    item_there (Some x) h = h

    export_alias_good : (s : Spaces) (kind : Sort) (from : ℕ) (name : List ℕ) → Spaced s
        → IfOk (export_alias b s kind from name) Spaced
    unfolding export_alias
    export_alias_good s kind from name h =
        then_ok Stood Spaced (at_index s.instances from) _ (index_ok Stood s.instances from h.instances) (λ i k.
        then_ok (AllGood (scope c seen ∷ ss)) Spaced (as_instance i) _ (instance_there i k) (λ es l.
        then_ok Stood Spaced (item_or_fault (under name es)) _
        (item_there (under name es) (under_good (scope c seen ∷ ss) name es l)) (λ e m.
        passed_ok Spaced _ Index _ (added_good c seen ss b s e.0 e.1 h m))))

    core_alias_good : (s : Spaces) (kind : CoreSort) → Spaced s → Spaced (core_alias s kind)
    core_alias_good s core.Func h = recounted c seen ss s _ _ _ h
    core_alias_good s core.Table h = recounted c seen ss s _ _ _ h
    core_alias_good s core.Memory h = recounted c seen ss s _ _ _ h
    core_alias_good s core.Global h = recounted c seen ss s _ _ _ h
    core_alias_good s core.Ty h = with_core c seen ss s _ h
    core_alias_good s core.Module h = with_module c seen ss s (IsOwnModule, true) h (tt, tt)
    core_alias_good s core.Instance h = recounted c seen ss s _ _ _ h

    pub aliased_good : (around : List Spaces) (s : Spaces) (a : Alias) → AroundGood ss around → Spaced s
        → IfOk (aliased b around s a) Spaced
    unfolding aliased
    aliased_good around s (alias.Export kind from name) hs h = export_alias_good s kind from name h
    aliased_good around s (alias.CoreExport kind from name) hs h =
        below_ok Spaced s.core.instances from (core_alias s kind) (core_alias_good s kind h)
    aliased_good around s (alias.Outer kind count index) hs h = outer_alias_good around s kind count index hs h

    -- ---- types

    destroyed_good : (s : Spaces) (destructor : Option ℕ) → Spaced s → IfOk (destroyed s destructor) Spaced
    destroyed_good s None h = h
    destroyed_good s (Some f) h = below_ok Spaced s.core.funcs f s h

  -- a scope that is closed, and one that is a type of instances
  abbrev pub ComponentGood : List Scope → Known → Type 0
  ComponentGood ss k = Good ss (IsComponent (closed k).imports (closed k).exports)

  pub closed_good : (ss : List Scope) (k : Known) → KnownGood true ss k → ComponentGood ss k
  closed_good ss k h =
      let is = entries_closed h.seen ss _ _ (entries_in k.imports) h.imports in
      let es = entries_closed h.seen ss _ _ (entries_in k.exports) h.exports in (
        together (IsKnown ss) (in_entries 2 (closed k).imports) (in_entries 2 (closed k).exports)
            (around_closed h.seen ss (closed k).imports is.0) (around_closed h.seen ss (closed k).exports es.0),
        (is.1, es.1),
      )

  open_good : (ss : List Scope) (k : Known) → KnownGood false ss k
      → Good ss (IsType (TypeOfInstances (entries_in k.exports)))
  open_good ss k h = (
    entries_out (IsKnown ss) 0 (entries_in k.exports)
        (weaker (IsKnown (scope false h.seen ∷ ss)) (Further (IsKnown ss)) (λ t k. k.1)
        (outwards (in_entries 0 (entries_in k.exports))) h.exports.0),
    (h.tied refl, h.exports.1, h.exports_placed refl),
  )

  -- a resource that a component makes
  resource_good : (c : Bool) (seen : List Thing) (ss : List Scope) (s : Spaces) → (c ≡ false → true ≡ false)
      → SpacesGood c seen ss s → Good (scope c seen ∷ ss) (IsType (Resource (made s.made.resources)))
  resource_good true seen ss s allowed h = (
    joined (IsKnown (scope true seen ∷ ss)) (outward (0, OfResource (made s.made.resources))) []
        (at_resource (IsKnown (scope true seen ∷ ss)) (made s.made.resources) (made_here seen ss false s.made.resources))
        tt,
    tt,
  )
  resource_good false seen ss s allowed h = let wrong : true ≡ false = allowed refl in absurd cc

  mutual
    unfolding with_type with_decls with_decl

    pub type_good : (c : Bool) (seen : List Thing) (ss : List Scope) (around : List Spaces) (s : Spaces)
        (t : ty.TypeTree) → AroundGood ss around → SpacesGood c seen ss s → (c ≡ false → is_resource t ≡ false)
        → TypeFormed t → IfOk (with_type b around s t) (SpacesGood c seen ss)
    type_good c seen ss around s (ty.Defined d) hs h allowed f =
        then_ok (λ x. All (IsKnown (scope c seen ∷ ss)) (in_value 0 x.0)) (SpacesGood c seen ss) (value_of s d) _
        (value_good (IsKnown (scope c seen ∷ ss)) s
        (weaker (StandingGood (scope c seen ∷ ss)) (λ st. AllByRecursion (IsKnown (scope c seen ∷ ss)) (mentioned st.0))
        (λ st k. k.0) s.types h.types) d) (λ t k. added_good c seen ss b s (IsType (Value t.0)) t.1 h (k, tt))
    type_good c seen ss around s (ty.Func g) hs h allowed f =
        then_ok (λ x. All (IsKnown (scope c seen ∷ ss)) (in_func 0 x.0)) (SpacesGood c seen ss) (func_of s g) _
        (func_good (IsKnown (scope c seen ∷ ss)) s
        (weaker (StandingGood (scope c seen ∷ ss)) (λ st. AllByRecursion (IsKnown (scope c seen ∷ ss)) (mentioned st.0))
        (λ st k. k.0) s.types h.types) g) (λ t k. added_good c seen ss b s (IsType (Func t.0)) t.1 h (k, tt))
    type_good c seen ss around s (ty.Component ds) hs h allowed f =
        passed_ok (SpacesGood c seen ss) (is_within b.scopes (suc (length (s ∷ around)))) TooDeep _
        (then_ok (KnownGood true (scope c seen ∷ ss)) (SpacesGood c seen ss)
        (with_decls b (s ∷ around) (nothing_known true) ds) _
        (decls_good true (scope c seen ∷ ss) (s ∷ around) (nothing_known true) ds (h, hs)
        (nothing_good true (scope c seen ∷ ss)) f)
        (λ inner k. added_good c seen ss b s (IsType (TypeOfComponents (closed inner).imports (closed inner).exports))
        true h (closed_good (scope c seen ∷ ss) inner k)))
    type_good c seen ss around s (ty.Instance ds) hs h allowed f =
        passed_ok (SpacesGood c seen ss) (is_within b.scopes (suc (length (s ∷ around)))) TooDeep _
        (then_ok (KnownGood false (scope c seen ∷ ss)) (SpacesGood c seen ss)
        (with_decls b (s ∷ around) (nothing_known false) ds) _
        (decls_good false (scope c seen ∷ ss) (s ∷ around) (nothing_known false) ds (h, hs)
        (nothing_good false (scope c seen ∷ ss)) f)
        (λ inner k. added_good c seen ss b s (IsType (TypeOfInstances (entries_in inner.exports))) true h
        (open_good (scope c seen ∷ ss) inner k)))
    type_good c seen ss around s (ty.Resource destructor) hs h allowed f =
        then_ok (SpacesGood c seen ss) (SpacesGood c seen ss) (destroyed s destructor) _
        (destroyed_good c seen ss s destructor h)
        (λ t k. added_good c seen ss b _ (IsType (Resource (made t.made.resources))) false
        (recounted c seen ss t _ _ _ k) (resource_good c seen ss t allowed k))

    decls_good : (c : Bool) (ss : List Scope) (around : List Spaces) (k : Known) (ds : ty.Decls) → AroundGood ss around
        → KnownGood c ss k → DeclsFormed c ds → IfOk (with_decls b around k ds) (KnownGood c ss)
    decls_good c ss around k ty.none hs h f = h
    decls_good c ss around k (ty.more d ds) hs h f =
        then_ok (KnownGood c ss) (KnownGood c ss) (with_decl b around k d) _ (decl_good c ss around k d hs h f.0)
        (λ next l. decls_good c ss around next ds hs l f.1)

    decl_good : (c : Bool) (ss : List Scope) (around : List Spaces) (k : Known) (d : ty.DeclTree) → AroundGood ss around
        → KnownGood c ss k → DeclFormed c d → IfOk (with_decl b around k d) (KnownGood c ss)
    decl_good c ss around k (ty.CoreTy t) hs h f =
        then_ok Anything (KnownGood c ss) (core_type_of b (core_scopes (k.spaces ∷ around)) t) _
        (anything (core_type_of b (core_scopes (k.spaces ∷ around)) t))
        (λ t l. spaces_too c ss k h _ (with_core c h.seen ss k.spaces t h.spaces))
    decl_good c ss around k (ty.Ty t) hs h f =
        then_ok (SpacesGood c h.seen ss) (KnownGood c ss) (with_type b around k.spaces t) _
        (type_good c h.seen ss around k.spaces t hs h.spaces (λ e. f.0) f.1) (λ s l. spaces_too c ss k h s l)
    decl_good c ss around k (ty.Aliased a) hs h f =
        then_ok (SpacesGood c h.seen ss) (KnownGood c ss) (aliased b around k.spaces a) _
        (aliased_good c h.seen ss around k.spaces a hs h.spaces) (λ s l. spaces_too c ss k h s l)
    decl_good true ss around k (ty.Import name ref) hs h f = imported_good b ss k name ref h
    decl_good false ss around k (ty.Import name ref) hs h f = absurd cc
    decl_good c ss around k (ty.Export name ref) hs h f = export_good b c ss k name ref h
