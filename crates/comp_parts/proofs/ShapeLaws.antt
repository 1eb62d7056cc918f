-- What a component imports and exports can lie in memory.
use Rattle.std.proofs.Common.{◌≡◌, ℕ, Bool, true, false, cond, List, [], ◌∷◌, length, suc, Result, Ok, Err, Option, Some, None, refl, subst}
use Rattle.std.specs.Prelude.{IfOk}
use Rattle.std.specs.List.{AllByRecursion}
use Rattle.comp_format.specs.Definitions as ty
use Rattle.comp_format.specs.Items.{ItemTree, Custom, CoreModule, CoreMade, CoreTy, Component, Instance, Aliased, Ty, Canonical, Import, Export}
use Rattle.comp_entity.specs.Entity as entity
use Rattle.comp_entity.specs.Entity.{IsType, IsInstance, IsComponent, IsOwnModule}
use Rattle.comp_entity.specs.Bounds.{ShapeFault, TooDeep, Bounds, is_within}
use Rattle.comp_entity.specs.Names.{changing}
use Rattle.comp_entity.specs.Views.{Sides}
use Rattle.comp_scope.specs.Spaces.{Spaces, Known, nothing_known, added, entries_in}
use Rattle.comp_scope.specs.CoreScopes.{core_type_of}
use Rattle.comp_scope.specs.Aliases.{core_scopes, aliased}
use Rattle.comp_scope.specs.Closing.{renumbered, with_numbers, closed}
use Rattle.comp_scope.specs.Values.{value_of, func_of}
use Rattle.comp_scope.specs.Types.{destroyed, with_resource, with_spaces, with_type, with_decls, with_decl}
use Rattle.comp_scope.specs.Shape.{Part, Plain, Inner, Parts, nothing, then_part, spaces_after, after, with_component, after_part, after_parts}
use Rattle.comp_parts.proofs.WholeLaws.{AllLie, all_lie_kept, then_ok, cond_ok, AreWholeSpaces, IsWholeScope, added_whole, entries_lie, StandsWhole, one_more}
use Rattle.comp_parts.proofs.ValueLaws.{any_ok, value_ok, func_ok}
use Rattle.comp_parts.proofs.ItemLaws.{counted, typed_core, below_ok, imported_ok, declared_ok, exported_ok, aliased_ok, with_instance_ok, core_instance_ok, canon_ok}

nothing_whole : (is_closed : Bool) → IsWholeScope (nothing_known is_closed)
nothing_whole is_closed = record { spaces = record { modules = tt; funcs = tt; types = tt; components = tt; instances = tt }; imports = tt; exports = tt }

with_spaces_whole : (k : Known) (s : Spaces) → IsWholeScope k → AreWholeSpaces s → IsWholeScope (with_spaces k s)
with_spaces_whole k s h w = record { spaces = w; imports = h.imports; exports = h.exports }

-- what a scope imports and exports, under its final names
abbrev pub SidesLie : Sides → Type 0
SidesLie c = AllLie c.imports × AllLie c.exports

numbered_lie : (resources places : List ℕ) (c : Sides) → SidesLie c → SidesLie (with_numbers resources places c)
numbered_lie resources places c h =
    let names = changing (renumbered resources) (renumbered places) in
    (all_lie_kept names 0 c.imports h.0, all_lie_kept names 0 c.exports h.1)

pub closed_lies : (k : Known) → IsWholeScope k → SidesLie (closed k)
closed_lies k h = numbered_lie _ _ (record { imports = entries_in k.imports; exports = entries_in k.exports }) (entries_lie k.imports h.imports, entries_lie k.exports h.exports)

destroyed_ok : (s : Spaces) (f : Option ℕ) → AreWholeSpaces s → IfOk (destroyed s f) AreWholeSpaces
destroyed_ok s None h = h
destroyed_ok s (Some f) h = below_ok _ s.core.funcs f s h

resource_ok : (b : Bounds) (s : Spaces) → AreWholeSpaces s → IfOk (with_resource b s) AreWholeSpaces
resource_ok b s h = added_whole b _ _ false (counted s h _ refl refl refl refl refl) (tt, tt)

opened_ok : {X : Type 0} (P : X → Type 0) (b : Bool) (r : Result X ShapeFault) → IfOk r P → IfOk (cond b r (Err TooDeep)) P
opened_ok P b r h = cond_ok P b r TooDeep (λ _. h)

module _ (b : Bounds) where
  mutual
    unfolding with_type with_decls with_decl

    type_ok : (around : List Spaces) (s : Spaces) (t : ty.TypeTree) → AllByRecursion AreWholeSpaces around → AreWholeSpaces s → IfOk (with_type b around s t) AreWholeSpaces
    type_ok around s (ty.Defined d) hs h = then_ok _ _ (value_of s d) _ (value_ok s h.types d) (λ t w. added_whole b s (IsType (entity.Value t.0)) t.1 h (w, tt))
    type_ok around s (ty.Func f) hs h = then_ok _ _ (func_of s f) _ (func_ok s h.types f) (λ t w. added_whole b s (IsType (entity.Func t.0)) t.1 h (w, tt))
    type_ok around s (ty.Component ds) hs h =
        opened_ok _ (is_within b.scopes (suc (length (s ∷ around)))) _ (then_ok _ _ (with_decls b (s ∷ around) (nothing_known true) ds) _ (decls_ok (s ∷ around) (nothing_known true) ds (h, hs) (nothing_whole true)) (λ inner w.
        let lie = closed_lies inner w in
        added_whole b s (IsType (entity.Component (closed inner).imports (closed inner).exports)) true h ((lie.0.0, lie.1.0), (lie.0.1, lie.1.1))))
    type_ok around s (ty.Instance ds) hs h =
        opened_ok _ (is_within b.scopes (suc (length (s ∷ around)))) _ (then_ok _ _ (with_decls b (s ∷ around) (nothing_known false) ds) _ (decls_ok (s ∷ around) (nothing_known false) ds (h, hs) (nothing_whole false)) (λ inner w.
        added_whole b s (IsType (entity.Instance (entries_in inner.exports))) true h (entries_lie inner.exports w.exports)))
    type_ok around s (ty.Resource destructor) hs h = then_ok _ _ (destroyed s destructor) _ (destroyed_ok s destructor h) (λ t w. resource_ok b t w)

    decls_ok : (around : List Spaces) (k : Known) (ds : ty.Decls) → AllByRecursion AreWholeSpaces around → IsWholeScope k → IfOk (with_decls b around k ds) IsWholeScope
    decls_ok around k ty.none hs h = h
    decls_ok around k (ty.more d ds) hs h = then_ok _ _ (with_decl b around k d) _ (decl_ok around k d hs h) (λ next w. decls_ok around next ds hs w)

    decl_ok : (around : List Spaces) (k : Known) (d : ty.DeclTree) → AllByRecursion AreWholeSpaces around → IsWholeScope k → IfOk (with_decl b around k d) IsWholeScope
    decl_ok around k (ty.CoreTy t) hs h = then_ok _ _ (core_type_of b (core_scopes (k.spaces ∷ around)) t) _ (any_ok _) (λ t _. with_spaces_whole k _ h (typed_core k.spaces t h.spaces))
    decl_ok around k (ty.Ty t) hs h = then_ok _ _ (with_type b around k.spaces t) _ (type_ok around k.spaces t hs h.spaces) (λ s w. with_spaces_whole k s h w)
    decl_ok around k (ty.Aliased a) hs h = then_ok _ _ (aliased b around k.spaces a) _ (aliased_ok b around k.spaces a hs h.spaces) (λ s w. with_spaces_whole k s h w)
    decl_ok around k (ty.Import name ref) hs h = imported_ok b k name ref h
    decl_ok around k (ty.Export name ref) hs h = declared_ok b k name ref h

  spaces_ok : (around : List Spaces) (s : Spaces) (item : ItemTree) → AllByRecursion AreWholeSpaces around → AreWholeSpaces s → IfOk (spaces_after b around s item) AreWholeSpaces
  unfolding spaces_after
  spaces_ok around s (Custom name bytes) hs h = h
  spaces_ok around s (CoreModule bytes) hs h = record { modules = one_more StandsWhole s.modules (IsOwnModule, true) h.modules tt; funcs = h.funcs; types = h.types; components = h.components; instances = h.instances }
  spaces_ok around s (CoreMade item) hs h = core_instance_ok s item h
  spaces_ok around s (CoreTy t) hs h = then_ok _ _ (core_type_of b (core_scopes (s ∷ around)) t) _ (any_ok _) (λ t _. typed_core s t h)
  spaces_ok around s (Component bytes) hs h = tt
  spaces_ok around s (Instance item) hs h = with_instance_ok b s item h
  spaces_ok around s (Aliased a) hs h = aliased_ok b around s a hs h
  spaces_ok around s (Ty t) hs h = type_ok around s t hs h
  spaces_ok around s (Canonical c) hs h = canon_ok b s c h
  spaces_ok around s (Import i) hs h = tt
  spaces_ok around s (Export e) hs h = tt

  item_ok : (around : List Spaces) (k : Known) (item : ItemTree) → AllByRecursion AreWholeSpaces around → IsWholeScope k → IfOk (after b around k item) IsWholeScope
  unfolding after
  item_ok around k (Import i) hs h = imported_ok b k i.name i.ty h
  item_ok around k (Export e) hs h = exported_ok b k e h
  item_ok around k (Custom name bytes) hs h = then_ok _ _ (spaces_after b around k.spaces (Custom name bytes)) _ (spaces_ok around k.spaces (Custom name bytes) hs h.spaces) (λ s w. with_spaces_whole k s h w)
  item_ok around k (CoreModule bytes) hs h = then_ok _ _ (spaces_after b around k.spaces (CoreModule bytes)) _ (spaces_ok around k.spaces (CoreModule bytes) hs h.spaces) (λ s w. with_spaces_whole k s h w)
  item_ok around k (CoreMade item) hs h = then_ok _ _ (spaces_after b around k.spaces (CoreMade item)) _ (spaces_ok around k.spaces (CoreMade item) hs h.spaces) (λ s w. with_spaces_whole k s h w)
  item_ok around k (CoreTy t) hs h = then_ok _ _ (spaces_after b around k.spaces (CoreTy t)) _ (spaces_ok around k.spaces (CoreTy t) hs h.spaces) (λ s w. with_spaces_whole k s h w)
  item_ok around k (Component bytes) hs h = then_ok _ _ (spaces_after b around k.spaces (Component bytes)) _ (spaces_ok around k.spaces (Component bytes) hs h.spaces) (λ s w. with_spaces_whole k s h w)
  item_ok around k (Instance item) hs h = then_ok _ _ (spaces_after b around k.spaces (Instance item)) _ (spaces_ok around k.spaces (Instance item) hs h.spaces) (λ s w. with_spaces_whole k s h w)
  item_ok around k (Aliased a) hs h = then_ok _ _ (spaces_after b around k.spaces (Aliased a)) _ (spaces_ok around k.spaces (Aliased a) hs h.spaces) (λ s w. with_spaces_whole k s h w)
  item_ok around k (Ty t) hs h = then_ok _ _ (spaces_after b around k.spaces (Ty t)) _ (spaces_ok around k.spaces (Ty t) hs h.spaces) (λ s w. with_spaces_whole k s h w)
  item_ok around k (Canonical c) hs h = then_ok _ _ (spaces_after b around k.spaces (Canonical c)) _ (spaces_ok around k.spaces (Canonical c) hs h.spaces) (λ s w. with_spaces_whole k s h w)

  component_ok : (k inner : Known) → IsWholeScope k → IsWholeScope inner → IfOk (with_component b k inner) IsWholeScope
  component_ok k inner h w =
      then_ok _ _ (added b k.spaces (IsComponent (closed inner).imports (closed inner).exports) true) _ (added_whole b k.spaces (IsComponent (closed inner).imports (closed inner).exports) true h.spaces (closed_lies inner w)) (λ s v. with_spaces_whole k s h v)

  mutual
    unfolding after_part after_parts

    part_ok : (around : List Spaces) (k : Known) (p : Part) → AllByRecursion AreWholeSpaces around → IsWholeScope k → IfOk (after_part b around k p) IsWholeScope
    part_ok around k (Plain item) hs h = item_ok around k item hs h
    part_ok around k (Inner bytes parts) hs h =
        opened_ok _ (is_within b.scopes (suc (length (k.spaces ∷ around)))) _ (then_ok _ _ (after_parts b (k.spaces ∷ around) (nothing_known true) parts) _ (parts_ok (k.spaces ∷ around) (nothing_known true) parts (h.spaces, hs) (nothing_whole true)) (λ inner w. component_ok k inner h w))

    parts_ok : (around : List Spaces) (k : Known) (ps : Parts) → AllByRecursion AreWholeSpaces around → IsWholeScope k → IfOk (after_parts b around k ps) IsWholeScope
    parts_ok around k nothing hs h = h
    parts_ok around k (then_part p ps) hs h = then_ok _ _ (after_part b around k p) _ (part_ok around k p hs h) (λ next w. parts_ok around next ps hs w)

  -- the imports and exports of a component that was read
  pub read_lies : (parts : Parts) (k : Known) → after_parts b [] (nothing_known true) parts ≡ Ok k → SidesLie (closed k)
  read_lies parts k e = closed_lies k (subst (λ r. IfOk r IsWholeScope) e (parts_ok [] (nothing_known true) parts tt (nothing_whole true)))
