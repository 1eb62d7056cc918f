-- What an alias stands for keeps one name for one type.
use Rattle.std.proofs.Common.{◌≡◌, refl, ℕ, zero, suc, ◌+◌, Bool, true, false, cond, List, [], ◌∷◌, ◌++◌, map, take, sum, Some, Ok, sym, ap, subst, ◌∙◌, arith}
use Rattle.std.specs.Prelude.{nat_lt, option_map, not, ◌||◌, ◌==◌}
use Rattle.std.proofs.lemmas.List.Sums.{sum_by-cons}
use Rattle.warg_values.specs.ReadingLaws.{bind_ok, ok_is, never, wanted_ok}
use Rattle.comp_format.specs.Parts.{is_outer}
use Rattle.comp_format.specs.Spaces.{space_of}
use Rattle.comp_format.specs.declared.types.CoreSort.{CoreSort}
use Rattle.comp_format.specs.declared.types.CoreSort.TheVariants as core
use Rattle.comp_format.specs.declared.types.Sort.{Sort}
use Rattle.comp_format.specs.declared.types.Sort.TheVariants as sort
use Rattle.comp_format.specs.declared.types.Alias.{Alias}
use Rattle.comp_format.specs.declared.types.Alias.TheVariants as alias
use Rattle.comp_entity.specs.Bounds.{ShapeFault, Index, Bounds}
use Rattle.comp_entity.specs.Entity.{Name, ValueTree, TypeShapeTree, EntityTree, IsType, IsFunc, IsInstance, IsComponent, IsModule, IsOwnModule, Entries, no_entry, entry}
use Rattle.comp_entity.specs.Fits.{under}
use Rattle.comp_entity.specs.NameLaws.{value_twice, value_kept, entity_kept, deeper_twice, unchanged}
use Rattle.comp_entity.specs.Names.{Counts, Mention, OfResource, OfPlace, changing, deeper, value_by, in_type, in_entity, is_resource, mentions_resource}
use Rattle.std.specs.List.{list_any, AllByRecursion}
use Rattle.std.specs.Str.{bytes_eq}
use Rattle.comp_scope.specs.Aliases.{width, Outer, outer_scope, from_outside, may_pass, core_scopes, outer_item, outer_alias, as_instance, export_alias, core_alias, aliased}
use Rattle.comp_scope.specs.CoreScopes.{outer_core}
use Rattle.comp_scope.specs.Spaces.{Spaces, Standing, KnownCoreType, CoreCounts, with_core_type, at_index, if_below, item_or_fault, standing, sort_of}
use Rattle.comp_coherence.specs.Coherence.{closed_off, TypeCoheres, Names, inward, Coheres, AllCohere}
use Rattle.comp_coherence.proofs.Changes.{as_is, Anything, Asked, everywhere, never_asked, outside_zero, entity_carried}
use Rattle.comp_coherence.proofs.Formed.{AliasFormed}
use Rattle.comp_coherence.proofs.Scopes.{seen_through, wide, ScopeNames, at_sort, AllKept, Holds, at_kept, standing_kept, added_holds, module_kept}

-- the scopes that are open, from the innermost
abbrev pub AllHold : List Spaces → Names → Type 0
AllHold [] names = Unit {0}
AllHold (s ∷ ss) names = (around : Names) × Holds s.is_closed s names around × AllHold ss around

pub holds_itself : (is_closed : Bool) (s : Spaces) (names around : Names) → Holds is_closed s names around → Holds s.is_closed s names around
holds_itself is_closed s names around h = subst (λ c. Holds c s names around) (sym h.closed) h

-- what names mean so many scopes further out, they mean further in
pub record Sees (distance : ℕ) (outer inner : Names) : Type 0 where
  pub resource : (r : Name) → outer.resource r ≡ true → inner.resource (deeper distance r) ≡ true
  pub tree : (n : Name) (t : ValueTree) → outer.tree n ≡ Some t → inner.tree (deeper distance n) ≡ Some (inward distance t)

here : (n : Name) → deeper 0 n ≡ n
here n = let same : n.out + 0 ≡ n.out = omega arith in ap (λ o. record { out = o; number = n.number }) same

pub inward_here : (t : ValueTree) → inward 0 t ≡ t
inward_here t =
    let at : deeper 0 ≡ (λ (n : Name). n) = λ i n. here n i in
    ap (λ (f : Name → Name). value_by (changing f f) 0 t) at ∙ value_kept (changing (λ n. n) (λ n. n)) unchanged 0 t

further_in : (w d : ℕ) (n : Name) → deeper (w + d) n ≡ deeper w (deeper d n)
further_in w d n = let same : n.out + (w + d) ≡ n.out + d + w = omega arith in ap (λ o. record { out = o; number = n.number }) same

pub inward_twice : (w d : ℕ) (t : ValueTree) → inward w (inward d t) ≡ inward (w + d) t
inward_twice w d t =
    let same : d + w ≡ w + d = omega arith in
    value_twice (changing (deeper w) (deeper w)) (changing (deeper d) (deeper d)) (changing (deeper (d + w)) (deeper (d + w))) (deeper_twice w d) 0 t
    ∙ ap (λ e. inward e t) same

module _ (outer inner : Names) (distance : ℕ) (sees : Sees distance outer inner) where
  pub seen_outside : (e : EntityTree) → Coheres outer e → Coheres inner (from_outside distance e)
  seen_outside e h =
      entity_carried (deeper distance) (deeper distance) (λ m. m) Anything Anything 0 outer inner
      (record {
        resource = λ r asked k. ap inner.resource (outside_zero (deeper distance) r) ∙ sees.resource r k;
        tree = λ n t asked only k. ap inner.tree (outside_zero (deeper distance) n) ∙ sees.tree n t k;
      })
      e h (everywhere (Asked (deeper distance) (deeper distance) (λ m. m) Anything Anything) (never_asked (deeper distance) (deeper distance) (λ m. m)) (in_entity 0 e))

-- a scope further out, and what its names mean further in, where a component is left on the way or is not
record OuterScope (s : Spaces) (distance : ℕ) (leaves : Bool) (inner : Names) : Type 0 where
  pub outer : Names
  pub kept : AllKept outer s
  pub sees : Sees distance (seen_through leaves outer) inner

same_tree : (leaves : Bool) (names : Names) (n : Name) → (seen_through leaves names).tree n ≡ names.tree n
same_tree true names n = refl
same_tree false names n = refl

-- one scope further out
see_through : (is_closed leaves : Bool) (d : ℕ) (makes brings : Counts) (names around outer : Names) → ScopeNames is_closed makes brings names (seen_through is_closed around) → Sees d (seen_through leaves outer) around → Sees (wide is_closed + d) (seen_through (is_closed || leaves) outer) names
see_through true leaves d makes brings names around outer n sees = record {
  resource = λ r k. absurd cc;
  tree = λ m t k.
      ap names.tree (further_in 2 d m) ∙ n.outer_tree (deeper d m)
      ∙ ap (option_map (inward 2)) (sees.tree m t (same_tree leaves outer m ∙ k)) ∙ ap Some (inward_twice 2 d t);
}
see_through false leaves d makes brings names around outer n sees = record {
  resource = λ r k. ap names.resource (further_in 1 d r) ∙ n.outer_resource (deeper d r) ∙ sees.resource r k;
  tree = λ m t k.
      ap names.tree (further_in 1 d m) ∙ n.outer_tree (deeper d m)
      ∙ ap (option_map (inward 1)) (sees.tree m t k) ∙ ap Some (inward_twice 1 d t);
}

scope_at : (scopes : List Spaces) (names : Names) (count : ℕ) (s : Spaces) → AllHold scopes names → at_index scopes count ≡ Ok s → OuterScope s (sum (map width (take count scopes))) (list_any (λ s. s.is_closed) (take count scopes)) names
scope_at [] names count s h e = never _ _ e
scope_at (x ∷ xs) names zero s h e =
    subst (λ s. OuterScope s 0 false names) (ok_is {F = ShapeFault} x s e)
    (record {
      outer = names;
      kept = h.1.kept;
      sees = record { resource = λ r k. ap names.resource (here r) ∙ k; tree = λ n t k. ap names.tree (here n) ∙ k ∙ ap Some (sym (inward_here t)) };
    })
scope_at (x ∷ xs) names (suc count) s h e =
    let o = scope_at xs h.0 count s h.2 e in
    let d : ℕ = sum (map width (take count xs)) in
    let leaves : Bool = list_any (λ s. s.is_closed) (take count xs) in
    subst (λ d. OuterScope s d (x.is_closed || leaves) names) (sym (sum_by-cons (λ x. x) (width x) (map width (take count xs))))
    (record { outer = o.outer; kept = o.kept; sees = see_through x.is_closed leaves d x.made x.brought names h.0 o.outer h.1.scope o.sees })

-- ---- what may pass into a component

abbrev Nothing : Name → Type 0
Nothing n = ⊥

no_resource : (ms : List (ℕ × Mention)) → list_any is_resource ms ≡ false → AllByRecursion (Asked as_is as_is (λ m. m) Nothing Anything) ms
no_resource [] h = tt
no_resource ((d, OfResource r) ∷ ms) h = absurd cc
no_resource ((d, OfPlace n) ∷ ms) h = (λ le. tt, no_resource ms h)

module _ (outer : Names) where
  -- a type that mentions no resource
  type_passes : (t : TypeShapeTree) → TypeCoheres outer t → mentions_resource t ≡ false → TypeCoheres (closed_off outer) t
  type_passes t h none =
      subst (Coheres (closed_off outer)) (entity_kept (changing as_is as_is) unchanged 0 (IsType t))
      (entity_carried as_is as_is (λ m. m) Nothing Anything 0 outer (closed_off outer)
      (record {
        resource = λ r asked k. absurd (asked (omega arith));
        tree = λ n t asked only k. ap outer.tree (outside_zero as_is n) ∙ k ∙ ap Some (sym (value_kept (changing as_is as_is) unchanged 0 t));
      })
      (IsType t) h (no_resource (in_type 0 t) none))

  passes : (leaves : Bool) (e : EntityTree) → is_outer (sort_of e) ≡ true → may_pass leaves e ≡ true → Coheres outer e → Coheres (seen_through leaves outer) e
  passes false e kind pass h = h
  passes true (IsType t) kind pass h = type_passes t h (of (mentions_resource t) pass)
    where
      of : (b : Bool) → not b ≡ true → b ≡ false
      of true e = cc
      of false e = refl
  passes true (IsFunc f) kind pass h = absurd cc
  passes true (IsInstance es) kind pass h = absurd cc
  passes true (IsComponent is es) kind pass h = h
  passes true (IsModule m) kind pass h = tt
  passes true IsOwnModule kind pass h = tt

-- what an outer alias may be of is of its sort
outer_sort : (names : Names) (s : Spaces) (kind : Sort) (i : ℕ) (e : Standing) → AllKept names s → is_outer kind ≡ true → standing s kind i ≡ Ok e → sort_of e.0 ≡ kind
outer_sort names s (sort.Core core.Module) i e k outer h = at_sort (sort.Core core.Module) s.modules i e k.only_modules h
outer_sort names s (sort.Core core.Func) i e k outer h = never _ _ h
outer_sort names s (sort.Core core.Table) i e k outer h = never _ _ h
outer_sort names s (sort.Core core.Memory) i e k outer h = never _ _ h
outer_sort names s (sort.Core core.Global) i e k outer h = never _ _ h
outer_sort names s (sort.Core core.Ty) i e k outer h = never _ _ h
outer_sort names s (sort.Core core.Instance) i e k outer h = never _ _ h
outer_sort names s sort.Func i e k outer h = absurd cc
outer_sort names s sort.Ty i e k outer h = at_sort sort.Ty s.types i e k.only_types h
outer_sort names s sort.Component i e k outer h = at_sort sort.Component s.components i e k.only_components h
outer_sort names s sort.Instance i e k outer h = absurd cc

-- the same index spaces beside other core items
pub with_core : (is_closed : Bool) (s : Spaces) (names around : Names) (counts : CoreCounts) (types : List KnownCoreType) → Holds is_closed s names around → Holds is_closed (record s { core = counts; core_types = types }) names around
with_core is_closed s names around counts types h = record { closed = h.closed; scope = h.scope; kept = record { modules = h.kept.modules; funcs = h.kept.funcs; types = h.kept.types; components = h.kept.components; instances = h.kept.instances; only_modules = h.kept.only_modules; only_types = h.kept.only_types; only_components = h.kept.only_components } }

pub below_is : {X : Type 0} (count i : ℕ) (x y : X) → if_below count i x ≡ Ok y → x ≡ y
below_is count i x y e = ok_is {F = ShapeFault} x y (wanted_ok (nat_lt i count) Index (Ok x) y e).1

under_kept : (names : Names) (name : List ℕ) (es : Entries) (e : Standing) → AllCohere names es → item_or_fault (under name es) ≡ Ok e → Coheres names e.0
under_kept names name no_entry e h is = never _ _ is
under_kept names name (entry n x mark es) e h is = of (bytes_eq name n) is (under_kept names name es e h.1)
  where
    of : (b : Bool) → item_or_fault (cond b (Some (x, mark)) (under name es)) ≡ Ok e → (item_or_fault (under name es) ≡ Ok e → Coheres names e.0) → Coheres names e.0
    of true is rest = subst (λ (e : Standing). Coheres names e.0) (ok_is {F = ShapeFault} (x, mark) e is) h.0
    of false is rest = rest is

pub instance_kept : (names : Names) (e : Standing) (es : Entries) → Coheres names e.0 → as_instance e ≡ Ok es → AllCohere names es
instance_kept names (IsInstance es, named) fs h is = subst (AllCohere names) (ok_is {F = ShapeFault} es fs is) h
instance_kept names _ fs h is = never _ _ is

module _ (b : Bounds) (is_closed : Bool) (around : List Spaces) (s : Spaces) (names outside_names : Names) (h : Holds is_closed s names outside_names) (hs : AllHold around outside_names) where
  outer_item_kept : (kind : Sort) (count index : ℕ) → is_outer kind ≡ true → (after : Spaces) → outer_item b around s kind count index ≡ Ok after → Holds is_closed after names outside_names
  unfolding outer_item
  outer_item_kept kind count index outer after is =
      let o = bind_ok (outer_scope (s ∷ around) count) _ after is in
      let e = bind_ok (standing o.0.spaces kind index) _ after o.2 in
      let pass = wanted_ok (may_pass o.0.leaves_component e.0.0) Index _ after e.2 in
      let at = bind_ok (at_index (s ∷ around) count) _ o.0 o.1 in
      let there : OuterScope o.0.spaces o.0.distance o.0.leaves_component names =
      subst (λ (q : Outer). OuterScope q.spaces q.distance q.leaves_component names) (ok_is {F = ShapeFault} _ o.0 at.2) (scope_at (s ∷ around) names count at.0 (outside_names, holds_itself is_closed s names outside_names h, hs) at.1) in
      let sorted = ap is_outer (outer_sort there.outer o.0.spaces kind index e.0 there.kept outer e.1) ∙ outer in
      added_holds names is_closed outside_names s h b (from_outside o.0.distance e.0.0) e.0.1 after
      (seen_outside (seen_through o.0.leaves_component there.outer) names o.0.distance there.sees e.0.0
      (passes there.outer o.0.leaves_component e.0.0 sorted pass.0 (standing_kept there.outer o.0.spaces kind index e.0 there.kept e.1))) pass.1

  outer_kept : (kind : Sort) (count index : ℕ) → is_outer kind ≡ true → (after : Spaces) → outer_alias b around s kind count index ≡ Ok after → Holds is_closed after names outside_names
  unfolding outer_alias
  outer_kept (sort.Core core.Ty) count index outer after is =
      let t = bind_ok (outer_core (core_scopes (s ∷ around)) count index) _ after is in
      subst (λ s. Holds is_closed s names outside_names) (ok_is {F = ShapeFault} (with_core_type s t.0) after t.2) (with_core is_closed s names outside_names s.core (s.core_types ++ t.0 ∷ []) h)
  outer_kept (sort.Core core.Func) count index outer after is = absurd cc
  outer_kept (sort.Core core.Table) count index outer after is = absurd cc
  outer_kept (sort.Core core.Memory) count index outer after is = absurd cc
  outer_kept (sort.Core core.Global) count index outer after is = absurd cc
  outer_kept (sort.Core core.Module) count index outer after is = outer_item_kept (sort.Core core.Module) count index outer after is
  outer_kept (sort.Core core.Instance) count index outer after is = absurd cc
  outer_kept sort.Func count index outer after is = absurd cc
  outer_kept sort.Ty count index outer after is = outer_item_kept sort.Ty count index outer after is
  outer_kept sort.Component count index outer after is = outer_item_kept sort.Component count index outer after is
  outer_kept sort.Instance count index outer after is = absurd cc

  export_alias_kept : (kind : Sort) (from : ℕ) (name : List ℕ) (after : Spaces) → export_alias b s kind from name ≡ Ok after → Holds is_closed after names outside_names
  unfolding export_alias
  export_alias_kept kind from name after is =
      let i = bind_ok (at_index s.instances from) _ after is in
      let es = bind_ok (as_instance i.0) _ after i.2 in
      let e = bind_ok (item_or_fault (under name es.0)) _ after es.2 in
      let alike = wanted_ok (space_of (sort_of e.0.0) == space_of kind) Index _ after e.2 in
      added_holds names is_closed outside_names s h b e.0.0 e.0.1 after
      (under_kept names name es.0 e.0 (instance_kept names i.0 es.0 (at_kept names s.instances from i.0 h.kept.instances i.1) es.1) e.1) alike.1

  core_alias_kept : (kind : CoreSort) → Holds is_closed (core_alias s kind) names outside_names
  core_alias_kept core.Func = with_core is_closed s names outside_names _ s.core_types h
  core_alias_kept core.Table = with_core is_closed s names outside_names _ s.core_types h
  core_alias_kept core.Memory = with_core is_closed s names outside_names _ s.core_types h
  core_alias_kept core.Global = with_core is_closed s names outside_names _ s.core_types h
  core_alias_kept core.Ty = with_core is_closed s names outside_names s.core _ h
  core_alias_kept core.Module = record { closed = h.closed; scope = h.scope; kept = module_kept names s (IsOwnModule, true) h.kept tt refl }
  core_alias_kept core.Instance = with_core is_closed s names outside_names _ s.core_types h

  pub aliased_kept : (a : Alias) → AliasFormed a → (after : Spaces) → aliased b around s a ≡ Ok after → Holds is_closed after names outside_names
  unfolding aliased
  aliased_kept (alias.Export kind from name) formed after is = export_alias_kept kind from name after is
  aliased_kept (alias.CoreExport kind from name) formed after is =
      subst (λ s. Holds is_closed s names outside_names) (below_is s.core.instances from (core_alias s kind) after is) (core_alias_kept kind)
  aliased_kept (alias.Outer kind count index) formed after is = outer_kept kind count index formed after is
