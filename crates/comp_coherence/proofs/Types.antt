-- Types that a component defines keep one name for one type.
use Rattle.std.proofs.Common.{◌≡◌, ℕ, suc, Bool, true, false, cond, List, [], ◌∷◌, ◌++◌, length, Option, Some, None, Ok, refl, sym, subst, ◌∙◌, arith}
use Rattle.std.specs.Prelude.{nat_lt, ◌==◌}
use Rattle.warg_values.specs.ReadingLaws.{bind_ok, ok_is, wanted_ok}
use Rattle.comp_format.specs.Definitions as ty
use Rattle.comp_entity.specs.Bounds.{ShapeFault, TooDeep, Bounds, is_within}
use Rattle.comp_entity.specs.Entity.{made, ValueTree, Value, Resource, Func, Instance, Component, IsType, IsInstance, Entries}
use Rattle.comp_entity.specs.Names.{Counts}
use Rattle.comp_scope.specs.Aliases.{core_scopes, aliased}
use Rattle.comp_scope.specs.Closing.{closed}
use Rattle.comp_scope.specs.CoreScopes.{core_type_of}
use Rattle.comp_scope.specs.Spaces.{Spaces, Known, nothing_known, with_core_type, counts_sum, entries_in}
use Rattle.comp_scope.specs.Types.{destroyed, with_resource, with_spaces, with_type, with_decls, with_decl}
use Rattle.comp_scope.specs.Values.{value_of, func_of}
use Rattle.comp_coherence.specs.Coherence.{closed_off, Names, within, any_resource, Coheres, AllCohere}
use Rattle.comp_coherence.proofs.Changes.{Grows, grows_on, stays, grown, by_depth, resource_near, resource_far, tree_near, tree_far}
use Rattle.comp_coherence.proofs.Scopes.{seen_through, wide, ScopeNames, Holds, HoldsAll, Further, FurtherAll, no_further, list_grown, entries_kept, added_holds}
use Rattle.comp_coherence.proofs.Defined.{defined_kept, func_kept}
use Rattle.comp_coherence.proofs.Imports.{made_names, made_grows, made_counts, import_kept, declared_kept}
use Rattle.comp_coherence.proofs.Aliases.{AllHold, holds_itself, with_core, below_is, aliased_kept}
use Rattle.comp_coherence.proofs.Closed.{closes}
use Rattle.comp_coherence.proofs.Formed.{TypeFormed, DeclFormed, DeclsFormed}

-- ---- scopes in which more stands

pub spaces_further : (is_closed : Bool) (k : Known) (names around : Names) → HoldsAll is_closed k names around → (s : Spaces) → Further is_closed s names around → FurtherAll is_closed (with_spaces k s) names around
spaces_further is_closed k names around h s f = record {
  later = f.later;
  grows = f.grows;
  holds = record {
    spaces = f.holds;
    imports = list_grown names f.later f.grows k.imports h.imports;
    exports = list_grown names f.later f.grows k.exports h.exports;
  };
}

pub further_on : (is_closed : Bool) (k after : Known) (names around : Names) (f : FurtherAll is_closed k names around) → FurtherAll is_closed after f.later around → FurtherAll is_closed after names around
further_on is_closed k after names around f g = record { later = g.later; grows = grows_on names f.later g.later f.grows g.grows; holds = g.holds }

pub none_further : (is_closed : Bool) (k : Known) (names around : Names) → HoldsAll is_closed k names around → FurtherAll is_closed k names around
none_further is_closed k names around h = record { later = names; grows = stays names; holds = h }

-- ---- a scope at its begin

abbrev first_own : Names
first_own = record { resource = λ n. cond (n.out == 0) (nat_lt n.number 0) true; tree = λ n. None }

abbrev pub first_names : Bool → Names → Names
first_names is_closed around = within (wide is_closed) first_own (seen_through is_closed around)

pub first_holds : (is_closed : Bool) (around : Names) → HoldsAll is_closed (nothing_known is_closed) (first_names is_closed around) around
first_holds true around = record {
  spaces = record {
    closed = refl;
    scope = record {
      outer_resource = resource_far 2 first_own (closed_off around);
      outer_tree = tree_far 2 first_own (closed_off around);
      made_resource = λ n. refl;
      brought_resource = λ closed n. refl;
      made_free = λ n le. refl;
      brought_free = λ closed n le. refl;
    };
    kept = record { modules = tt; funcs = tt; types = tt; components = tt; instances = tt; only_modules = tt; only_types = tt; only_components = tt };
  };
  imports = tt;
  exports = tt;
}
first_holds false around = record {
  spaces = record {
    closed = refl;
    scope = record {
      outer_resource = resource_far 1 first_own around;
      outer_tree = tree_far 1 first_own around;
      made_resource = λ n. refl;
      brought_resource = λ closed n. absurd cc;
      made_free = λ n le. refl;
      brought_free = λ closed n le. absurd cc;
    };
    kept = record { modules = tt; funcs = tt; types = tt; components = tt; instances = tt; only_modules = tt; only_types = tt; only_components = tt };
  };
  imports = tt;
  exports = tt;
}

-- ---- types of instances

-- the names of a type of instances, of which any resource may be mentioned
module _ (makes brings : Counts) (names around : Names) (n : ScopeNames false makes brings names around) where
  abbrev own_names : Names
  own_names = within 1 (any_resource names.tree) around

  instance_grows : Grows names own_names
  instance_grows = record {
    resource = by_depth (λ r. names.resource r ≡ true → own_names.resource r ≡ true) 1
        (λ r lt h. resource_near 1 (any_resource names.tree) around r lt)
        (λ m h. resource_far 1 (any_resource names.tree) around m ∙ sym (n.outer_resource m) ∙ h);
    tree = by_depth (λ m. (t : ValueTree) → names.tree m ≡ Some t → own_names.tree m ≡ Some t) 1
        (λ m lt t h. tree_near 1 (any_resource names.tree) around m lt ∙ h)
        (λ m t h. tree_far 1 (any_resource names.tree) around m ∙ sym (n.outer_tree m) ∙ h);
  }

  pub instance_type_kept : (es : Entries) → AllCohere names es → Coheres around (IsType (Instance es))
  instance_type_kept es h = (names.tree, grown names own_names instance_grows (IsInstance es) h)

-- ---- types

module _ (is_closed : Bool) (names around : Names) (s : Spaces) (h : Holds is_closed s names around) where
  destroyed_is : (destructor : Option ℕ) (after : Spaces) → destroyed s destructor ≡ Ok after → s ≡ after
  destroyed_is None after e = ok_is {F = ShapeFault} s after e
  destroyed_is (Some f) after e = below_is s.core.funcs f s after e

  abbrev one_resource : Counts
  one_resource = record { resources = 1; places = 0 }

  resource_kept : (b : Bounds) (after : Spaces) → with_resource b s ≡ Ok after → Further is_closed after names around
  resource_kept b after e =
      let later : Names = made_names b is_closed names around s h one_resource (λ j. None) in
      record {
        later = later;
        grows = made_grows b is_closed names around s h one_resource (λ j. None);
        holds = added_holds later is_closed around (record s { made = counts_sum s.made one_resource }) (made_counts b is_closed names around s h one_resource (λ j. None)) b
            (IsType (Resource (made s.made.resources))) false after (grind arith) e;
      }

module _ (b : Bounds) where
  mutual
    unfolding with_type with_decls with_decl

    pub type_kept : (is_closed : Bool) (ss : List Spaces) (s : Spaces) (names around : Names) → Holds is_closed s names around → AllHold ss around → (t : ty.TypeTree) → TypeFormed t → (after : Spaces) → with_type b ss s t ≡ Ok after → Further is_closed after names around
    type_kept is_closed ss s names around h hs (ty.Defined d) formed after e =
        let t = bind_ok (value_of s d) _ after e in
        no_further is_closed after names around (added_holds names is_closed around s h b (IsType (Value t.0.0)) t.0.1 after (defined_kept names s h.kept d t.0 t.1) t.2)
    type_kept is_closed ss s names around h hs (ty.Func f) formed after e =
        let t = bind_ok (func_of s f) _ after e in
        no_further is_closed after names around (added_holds names is_closed around s h b (IsType (Func t.0.0)) t.0.1 after (func_kept names s h.kept f t.0 t.1) t.2)
    type_kept is_closed ss s names around h hs (ty.Component ds) formed after e =
        let open_ok = wanted_ok (is_within b.scopes (suc (length (s ∷ ss)))) TooDeep _ after e in
        let i = bind_ok (with_decls b (s ∷ ss) (nothing_known true) ds) _ after open_ok.1 in
        let f = decls_kept true (s ∷ ss) (nothing_known true) (first_names true names) names (first_holds true names) (around, holds_itself is_closed s names around h, hs) ds formed i.0 i.1 in
        let c = closes f.later names i.0 f.holds in
        no_further is_closed after names around
        (added_holds names is_closed around s h b (IsType (Component (closed i.0).imports (closed i.0).exports)) true after (c.own, c.imports, c.exports) i.2)
    type_kept is_closed ss s names around h hs (ty.Instance ds) formed after e =
        let open_ok = wanted_ok (is_within b.scopes (suc (length (s ∷ ss)))) TooDeep _ after e in
        let i = bind_ok (with_decls b (s ∷ ss) (nothing_known false) ds) _ after open_ok.1 in
        let f = decls_kept false (s ∷ ss) (nothing_known false) (first_names false names) names (first_holds false names) (around, holds_itself is_closed s names around h, hs) ds formed i.0 i.1 in
        no_further is_closed after names around
        (added_holds names is_closed around s h b (IsType (Instance (entries_in i.0.exports))) true after
        (instance_type_kept i.0.spaces.made i.0.spaces.brought f.later names f.holds.spaces.scope (entries_in i.0.exports) (entries_kept f.later i.0.exports f.holds.exports)) i.2)
    type_kept is_closed ss s names around h hs (ty.Resource destructor) formed after e =
        let t = bind_ok (destroyed s destructor) (with_resource b) after e in
        resource_kept is_closed names around s h b after (subst (λ s. with_resource b s ≡ Ok after) (sym (destroyed_is is_closed names around s h destructor t.0 t.1)) t.2)

    pub decls_kept : (is_closed : Bool) (ss : List Spaces) (k : Known) (names around : Names) → HoldsAll is_closed k names around → AllHold ss around → (ds : ty.Decls) → DeclsFormed is_closed ds → (after : Known) → with_decls b ss k ds ≡ Ok after → FurtherAll is_closed after names around
    decls_kept is_closed ss k names around h hs ty.none formed after e =
        subst (λ k. FurtherAll is_closed k names around) (ok_is {F = ShapeFault} k after e) (none_further is_closed k names around h)
    decls_kept is_closed ss k names around h hs (ty.more d ds) formed after e =
        let next = bind_ok (with_decl b ss k d) _ after e in
        let f = decl_kept is_closed ss k names around h hs d formed.0 next.0 next.1 in
        further_on is_closed next.0 after names around f (decls_kept is_closed ss next.0 f.later around f.holds hs ds formed.1 after next.2)

    pub decl_kept : (is_closed : Bool) (ss : List Spaces) (k : Known) (names around : Names) → HoldsAll is_closed k names around → AllHold ss around → (d : ty.DeclTree) → DeclFormed is_closed d → (after : Known) → with_decl b ss k d ≡ Ok after → FurtherAll is_closed after names around
    decl_kept is_closed ss k names around h hs (ty.CoreTy t) formed after e =
        let known = bind_ok (core_type_of b (core_scopes (k.spaces ∷ ss)) t) _ after e in
        subst (λ k. FurtherAll is_closed k names around) (ok_is {F = ShapeFault} (with_spaces k (with_core_type k.spaces known.0)) after known.2)
        (spaces_further is_closed k names around h (with_core_type k.spaces known.0)
        (no_further is_closed (with_core_type k.spaces known.0) names around (with_core is_closed k.spaces names around k.spaces.core (k.spaces.core_types ++ known.0 ∷ []) h.spaces)))
    decl_kept is_closed ss k names around h hs (ty.Ty t) formed after e =
        let s = bind_ok (with_type b ss k.spaces t) _ after e in
        subst (λ k. FurtherAll is_closed k names around) (ok_is {F = ShapeFault} (with_spaces k s.0) after s.2)
        (spaces_further is_closed k names around h s.0 (type_kept is_closed ss k.spaces names around h.spaces hs t formed s.0 s.1))
    decl_kept is_closed ss k names around h hs (ty.Aliased a) formed after e =
        let s = bind_ok (aliased b ss k.spaces a) _ after e in
        subst (λ k. FurtherAll is_closed k names around) (ok_is {F = ShapeFault} (with_spaces k s.0) after s.2)
        (spaces_further is_closed k names around h s.0 (no_further is_closed s.0 names around (aliased_kept b is_closed ss k.spaces names around h.spaces hs a formed s.0 s.1)))
    decl_kept is_closed ss k names around h hs (ty.Import name ref) formed after e = import_kept b is_closed names around k h formed name ref after e
    decl_kept is_closed ss k names around h hs (ty.Export name ref) formed after e = declared_kept b is_closed names around k h name ref after e
