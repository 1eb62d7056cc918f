-- Exports of a component keep one name for one type.
use Rattle.std.proofs.Common.{◌≡◌, ℕ, ◌+◌, ◌-◌, Bool, true, false, cond, ◌&&◌, Option, Some, None, Ok, Err, refl, sym, ap, subst, ◌∙◌, arith}
use Rattle.std.specs.Prelude.{nat_lt, nat_le, unwrap_or, option_map, ◌==◌}
use Rattle.std.specs.List.{AllByRecursion}
use Rattle.warg_values.specs.ReadingLaws.{bind_ok, ok_is, guard_ok, wanted_ok}
use Rattle.comp_format.specs.declared.types.TypeRef.{TypeRef}
use Rattle.comp_format.specs.Items.{ExportTree}
use Rattle.comp_entity.specs.Bounds.{ShapeFault, Index, DoesNotFit, Bounds}
use Rattle.comp_entity.specs.Entity.{Name, made, ValueTree, TypeShapeTree, Resource, Value, Func, Instance, Component, EntityTree, IsType, IsFunc, IsInstance, IsComponent, IsModule, IsOwnModule}
use Rattle.comp_entity.specs.Fits.{same_name, stands, fits_with, resource_for, place_for}
use Rattle.comp_entity.specs.Names.{changing, outside, value_by, entity_by, in_entity}
use Rattle.comp_scope.specs.Spaces.{Spaces, Known, Standing, is_taken, standing, no_counts}
use Rattle.comp_scope.specs.Descriptions.{new_made, named_by, names_a_place, Described, plainly, described}
use Rattle.comp_scope.specs.Exports.{is_typed, plain_export, is_new, fitted_resource, fitted_place, fitting, exported_as, exported}
use Rattle.comp_coherence.specs.Coherence.{Names, Coheres}
use Rattle.comp_coherence.proofs.Values.{mentions, value_stays}
use Rattle.comp_coherence.proofs.Changes.{Anything, Asked, Carries, everywhere, never_asked, outside_zero, grown, entity_carried}
use Rattle.comp_coherence.proofs.Scopes.{seen_through, Holds, HoldsAll, FurtherAll, standing_kept, first}
use Rattle.comp_coherence.proofs.Defined.{answer}
use Rattle.comp_coherence.proofs.NewNames.{own_resource}
use Rattle.comp_coherence.proofs.Described.{settled, kept_is, kept_passes, with_new, named_keeps, described_keeps}
use Rattle.comp_coherence.proofs.Imports.{made_side, made_names, made_grows, made_keeps, export_kept}
use Rattle.comp_coherence.proofs.Fitting as fit

module _ (b : Bounds) (is_closed : Bool) (names around : Names) (s : Spaces) (h : Holds is_closed s names around) where
  -- what is exported
  pub record Exporting (d : Described) : Type 0 where
    pub trees : ℕ → Option ValueTree
    pub keeps : Coheres (made_names b is_closed names around s h d.brings trees) d.standing.0

  plainly_kept : (e : EntityTree) (named : Bool) → Coheres names e → Exporting (plainly e named)
  plainly_kept e named k = record { trees = λ j. None; keeps = grown names (made_names b is_closed names around s h no_counts (λ j. None)) (made_grows b is_closed names around s h no_counts (λ j. None)) e k }

  -- ---- without a description

  abbrev by_place : Name → TypeShapeTree → Bool → Described
  by_place place t named = record { standing = (IsType (named_by place t), named); brings = record { resources = 0; places = names_a_place t } }

  named_kept : (t : TypeShapeTree) (named : Bool) → Coheres names (IsType t) → Exporting (by_place (made s.made.places) t named)
  named_kept t named k =
      let keeping = named_keeps is_closed s.made s.brought names (seen_through is_closed around) h.scope 0 s.made.places (λ c. c) (new_made s) (made_side b is_closed names around s h) t named k in
      let same : s.made.places + 0 ≡ s.made.places = omega arith in
      subst (λ n. Exporting (by_place (made n) t named)) same
      (record { trees = keeping.trees; keeps = made_keeps b is_closed names around s h (by_place (made (s.made.places + 0)) t named) keeping.trees keeping.keeps })

  read_is : (d e : Described) → answer d ≡ answer e → Exporting d → Exporting e
  read_is d e is k = subst Exporting (ok_is {F = ShapeFault} d e is) k

  named_only : (e : EntityTree) (named : Bool) (d : Described) → Coheres names e → cond named (Ok (plainly e true)) (Err Index) ≡ Ok d → Exporting d
  named_only e named d k is = read_is (plainly e true) d (wanted_ok named Index (Ok (plainly e true)) d is).1 (plainly_kept e true k)

  plain_kept : (e : Standing) (d : Described) → Coheres names e.0 → plain_export s e ≡ Ok d → Exporting d
  plain_kept (IsType (Resource r), named) d k is = read_is _ d is (plainly_kept (IsType (Resource r)) true k)
  plain_kept (IsType (Value t), named) d k is = read_is _ d is (named_kept (Value t) named k)
  plain_kept (IsType (Func f), named) d k is = read_is _ d is (named_kept (Func f) named k)
  plain_kept (IsType (Instance es), named) d k is = read_is _ d is (named_kept (Instance es) named k)
  plain_kept (IsType (Component is es), named) d k e = read_is _ d e (named_kept (Component is es) named k)
  plain_kept (IsFunc f, named) d k is = named_only (IsFunc f) named d k is
  plain_kept (IsInstance es, named) d k is = named_only (IsInstance es) named d k is
  plain_kept (IsComponent is es, named) d k e = named_only (IsComponent is es) named d k e
  plain_kept (IsModule m, named) d k is = named_only (IsModule m) named d k is
  plain_kept (IsOwnModule, named) d k is = named_only IsOwnModule named d k is

  -- ---- with one

  module _ (e : Standing) (d : Described) (trees : ℕ → Option ValueTree) where
    abbrev asked_names : Names
    asked_names = with_new is_closed s.made s.brought names (seen_through is_closed around) h.scope 0 s.made.places (λ c. c) (new_made s) d.brings trees

    abbrev f : Name → Name
    f = fitted_resource s (stands e.0 d.standing.0)

    abbrev g : Name → Name
    g = fitted_place s (stands e.0 d.standing.0)

    abbrev asked : EntityTree
    asked = entity_by (changing f g) 0 d.standing.0

    abbrev fitted : ValueTree → ValueTree
    fitted t = value_by (changing f g) 0 t

    abbrev fitted_trees : ℕ → Option ValueTree
    fitted_trees j = option_map fitted (trees j)

    abbrev later : Names
    later = made_names b is_closed names around s h d.brings fitted_trees

    module _ (k : Coheres names e.0) (a : Coheres asked_names d.standing.0) (fits : fits_with same_name e.0 asked ≡ true) where
      all_stand : AllByRecursion (fit.Standing f g names asked_names) (stands e.0 d.standing.0)
      all_stand = fit.stands_kept f g names asked_names e.0 d.standing.0 k a fits

      resource_fitted : (r : Name) → asked_names.resource r ≡ true → later.resource (f r) ≡ true
      resource_fitted r is = of (is_new s.made.resources r) (resource_for (stands e.0 d.standing.0) r) refl
        where
          of : (new : Bool) (o : Option Name) → resource_for (stands e.0 d.standing.0) r ≡ o → later.resource (cond new (unwrap_or o r) r) ≡ true
          of true (Some x) at = (made_grows b is_closed names around s h d.brings fitted_trees).resource x (fit.resource_stands f g names asked_names (stands e.0 d.standing.0) r x all_stand at)
          of true None at = is
          of false o at = is

      -- what was there is called as it was
      old_resource : (r : Name) → names.resource r ≡ true → outside f 0 r ≡ r
      old_resource r is = outside_zero f r ∙ of (r.out == 0) refl
        where
          of : (zeroth : Bool) → (r.out == 0) ≡ zeroth → cond (zeroth && nat_le s.made.resources r.number) (unwrap_or (resource_for (stands e.0 d.standing.0) r) r) r ≡ r
          of true at =
              let lt : nat_lt r.number s.made.resources ≡ true = sym (own_resource is_closed s.made s.brought names (seen_through is_closed around) h.scope r at) ∙ is in
              let old : nat_le s.made.resources r.number ≡ false = grind arith in
              rw old refl
          of false at = refl

      old_kept : (t : ValueTree) → mentions names.resource t ≡ true → fitted t ≡ t
      old_kept t only = value_stays (changing f g) 0 names.resource old_resource t only

      old_tree : (n : Name) (t : ValueTree) → (settled names).tree n ≡ Some t → later.tree n ≡ Some (fitted t)
      old_tree n t is =
          (made_grows b is_closed names around s h d.brings fitted_trees).tree n t (kept_is (mentions names.resource) (names.tree n) t is)
          ∙ ap Some (sym (old_kept t (kept_passes (mentions names.resource) (names.tree n) t is)))

      abbrev stays_or : Option (Option Name) → Name → Name
      stays_or o n = unwrap_or (unwrap_or o None) n

      -- a place that is new, and for which none stands
      new_tree : (n : Name) (t : ValueTree) → (n.out == 0) ≡ true → nat_lt n.number s.made.places ≡ false → asked_names.tree n ≡ Some t → later.tree n ≡ Some (fitted t)
      new_tree n t zeroth past is = rw (zeroth, past) (of (nat_lt (n.number - s.made.places) d.brings.places) (rw (zeroth, past) at is))
        where
          of : (c : Bool) → cond c (trees (n.number - s.made.places)) None ≡ Some t → cond c (fitted_trees (n.number - s.made.places)) None ≡ Some (fitted t)
          of true is = ap (option_map fitted) is
          of false is = absurd cc

      tree_fitted : (n : Name) (t : ValueTree) → asked_names.tree n ≡ Some t → later.tree (g n) ≡ Some (fitted t)
      tree_fitted n t is = of (n.out == 0) (nat_lt n.number s.made.places) refl refl is
        where
          stands_for : (o : Option (Option Name)) → place_for (stands e.0 d.standing.0) n ≡ o → (n.out == 0) ≡ true → nat_lt n.number s.made.places ≡ false → later.tree (stays_or o n) ≡ Some (fitted t)
          stands_for None at zeroth past = new_tree n t zeroth past is
          stands_for (Some None) at zeroth past = new_tree n t zeroth past is
          stands_for (Some (Some p)) at zeroth past =
              let found = fit.place_stands_for f g names asked_names (stands e.0 d.standing.0) n p all_stand at in
              let same : found.0 ≡ t = (let both : Some found.0 ≡ Some t = sym found.1 ∙ is in cc) in
              (made_grows b is_closed names around s h d.brings fitted_trees).tree p (fitted found.0) found.2 ∙ ap (λ t. Some (fitted t)) same

          of : (zeroth past : Bool) → (n.out == 0) ≡ zeroth → nat_lt n.number s.made.places ≡ past
              → cond zeroth (cond past ((settled names).tree n) (first asked_names 0 s.made.places d.brings.places 0 trees (n.number - s.made.places))) ((settled names).tree n) ≡ Some t
              → later.tree (cond (zeroth && nat_le s.made.places n.number) (stays_or (place_for (stands e.0 d.standing.0) n) n) n) ≡ Some (fitted t)
          of true true z p old = let before : nat_le s.made.places n.number ≡ false = grind arith in rw before (old_tree n t old)
          of true false z p new = let behind : nat_le s.made.places n.number ≡ true = grind arith in rw behind (stands_for (place_for (stands e.0 d.standing.0) n) refl z p)
          of false p z q old = old_tree n t old

      asked_carries : Carries f g (λ m. m) Anything Anything 0 asked_names later
      asked_carries = record {
        resource = λ r asked is. ap later.resource (outside_zero f r) ∙ resource_fitted r is;
        tree = λ n t asked only is. ap later.tree (outside_zero g n) ∙ tree_fitted n t is;
      }

      asked_kept : Coheres later asked
      asked_kept =
          entity_carried f g (λ m. m) Anything Anything 0 asked_names later asked_carries d.standing.0 a
          (everywhere (Asked f g (λ m. m) Anything Anything) (never_asked f g (λ m. m)) (in_entity 0 d.standing.0))

    fitting_kept : (after : Described) → Coheres names e.0 → Coheres asked_names d.standing.0 → fitting s e d ≡ Ok after → Exporting after
    fitting_kept after k a is =
        let fits = wanted_ok (fits_with same_name e.0 asked) DoesNotFit (Ok (record d { standing = (asked, d.standing.1) })) after is in
        read_is (record d { standing = (asked, d.standing.1) }) after fits.1 (record { trees = fitted_trees; keeps = asked_kept k a fits.0 })

  exported_as_kept : (e : Standing) (ref : Option TypeRef) (d : Described) → Coheres names e.0 → exported_as s e ref ≡ Ok d → Exporting d
  exported_as_kept e None d k is = plain_kept e d k is
  exported_as_kept e (Some ref) d k is =
      let x = bind_ok (described s (new_made s) ref) (fitting s e) d is in
      let keeping = described_keeps is_closed s.made s.brought names (seen_through is_closed around) h.scope 0 s.made.places (λ c. c) (new_made s) (made_side b is_closed names around s h) s h.kept ref x.0 x.1 in
      fitting_kept e x.0 keeping.trees d k keeping.keeps x.2

pub exported_kept : (b : Bounds) (is_closed : Bool) (names around : Names) (k : Known) → HoldsAll is_closed k names around → (e : ExportTree) (after : Known) → exported b k e ≡ Ok after → FurtherAll is_closed after names around
unfolding exported
exported_kept b is_closed names around k h e after is =
    let fresh = guard_ok (is_taken e.name k.exports) Index _ after is in
    let item = bind_ok (standing k.spaces e.sort e.index) _ after fresh.1 in
    let d = bind_ok (cond (is_typed item.0.0) (exported_as k.spaces item.0 e.ty) (Err Index)) _ after item.2 in
    let typed = wanted_ok (is_typed item.0.0) Index (exported_as k.spaces item.0 e.ty) d.0 d.1 in
    let exporting = exported_as_kept b is_closed names around k.spaces h.spaces item.0 e.ty d.0 (standing_kept names k.spaces e.sort e.index item.0 h.spaces.kept item.1) typed.1 in
    export_kept b is_closed names around k h e.name after d.0 exporting.trees exporting.keeps _ refl d.2
