-- What stands for a place has the tree of the place.
use Rattle.std.proofs.Common.{◌≡◌, ℕ, Bool, true, false, cond, List, [], ◌∷◌, Option, Some, None, refl, sym, ap, subst, ◌∙◌}
use Rattle.std.specs.List.{AllByRecursion}
use Rattle.std.specs.Option.{option_map_or}
use Rattle.std.specs.Str.{bytes_eq}
use Rattle.comp_entity.specs.Entity.{Name, ValueTree, TypeShapeTree, Value, Resource, EntityTree, IsType, IsInstance, Entries, no_entry, entry}
use Rattle.comp_entity.specs.Names.{changing, value_by, entity_by, entries_by}
use Rattle.comp_entity.specs.Fits.{same_name, values_equal, under, fits_with, all_fit, Stands, ForResource, ForPlace, place_of, for_place, type_stands, stands, all_stand, resource_for, place_for}
use Rattle.comp_coherence.specs.Changes.{SameType}
use Rattle.comp_coherence.specs.Coherence.{Names, bare_value, OneTree, TypeCoheres, Coheres, AllCohere}
use Rattle.comp_coherence.specs.TypeLaws.{left_of, place_stands, right_of, same_is, value_is}
use Rattle.comp_coherence.proofs.Values.{bare_changed}
use Rattle.comp_coherence.proofs.Changes.{joined}

-- ---- what stands for what

-- what was given, and what was asked in other names
module _ (f g : Name → Name) (names asked_names : Names) where
  abbrev pub Standing : Stands → Type 0
  Standing (ForResource asked r) = names.resource r ≡ true
  Standing (ForPlace asked None) = Unit {0}
  Standing (ForPlace asked (Some p)) = (t : ValueTree) × (asked_names.tree asked ≡ Some t) × (names.tree p ≡ Some (value_by (changing f g) 0 t))

  value_stands : (t u : ValueTree) → OneTree names t → OneTree asked_names u → values_equal same_name t (value_by (changing f g) 0 u) ≡ true → AllByRecursion Standing (for_place (place_of u) (place_of t))
  value_stands t u h k same = of (place_of u) (place_of t) refl refl
    where
      of : (asked given : Option Name) → place_of u ≡ asked → place_of t ≡ given → AllByRecursion Standing (for_place asked given)
      of None given is from = tt
      of (Some a) None is from = (tt, tt)
      of (Some a) (Some p) is from =
          ((bare_value u, place_stands asked_names u a k is, place_stands names t p h from ∙ ap Some (value_is t (value_by (changing f g) 0 u) same ∙ bare_changed _ _ (λ m. m) 0 u)), tt)

  type_stands_kept : (t u : TypeShapeTree) → TypeCoheres names t → TypeCoheres asked_names u → fits_with same_name (IsType t) (entity_by (changing f g) 0 (IsType u)) ≡ true → AllByRecursion Standing (type_stands t u)
  type_stands_kept (Resource r) (Resource a) h k same = (h, tt)
  type_stands_kept (Value t) (Value u) h k same = value_stands t u h k same
  type_stands_kept _ _ h k same = tt

  under_keeps : (name : List ℕ) (es : Entries) (e : EntityTree × Bool) → AllCohere names es → under name es ≡ Some e → Coheres names e.0
  under_keeps name no_entry e h is = absurd cc
  under_keeps name (entry n x mark es) e h is = of (bytes_eq name n) is (under_keeps name es e h.1)
    where
      of : (b : Bool) → cond b (Some (x, mark)) (under name es) ≡ Some e → (under name es ≡ Some e → Coheres names e.0) → Coheres names e.0
      of true is rest = let same : (x, mark) ≡ e = cc in subst (λ (e : EntityTree × Bool). Coheres names e.0) same h.0
      of false is rest = rest is

  mutual
    pub stands_kept : (given asked : EntityTree) → Coheres names given → Coheres asked_names asked → fits_with same_name given (entity_by (changing f g) 0 asked) ≡ true → AllByRecursion Standing (stands given asked)
    stands_kept (IsType t) (IsType u) h k fits = type_stands_kept t u h k fits
    stands_kept (IsInstance es) (IsInstance asked) h k fits = all_stands_kept es asked h k fits
    stands_kept _ _ h k fits = tt

    pub all_stands_kept : (es asked : Entries) → AllCohere names es → AllCohere asked_names asked → all_fit same_name es (entries_by (changing f g) 0 asked) ≡ true → AllByRecursion Standing (all_stand es asked)
    all_stands_kept es no_entry h k fits = tt
    all_stands_kept es (entry name asked mark rest) h k fits =
        joined Standing (option_map_or (λ e. stands e.0 asked) (under name es) []) (all_stand es rest)
        (first_stands (under name es) refl (left_of _ _ fits) (λ e is. stands_kept e.0 asked (under_keeps name es e h is) k.0))
        (all_stands_kept es rest h k.1 (right_of (option_map_or (λ e. fits_with same_name e.0 (entity_by (changing f g) 0 asked)) (under name es) false) _ fits))
      where
        first_stands : (o : Option (EntityTree × Bool)) → under name es ≡ o → option_map_or (λ e. fits_with same_name e.0 (entity_by (changing f g) 0 asked)) o false ≡ true
            → ((e : EntityTree × Bool) → under name es ≡ Some e → fits_with same_name e.0 (entity_by (changing f g) 0 asked) ≡ true → AllByRecursion Standing (stands e.0 asked))
            → AllByRecursion Standing (option_map_or (λ e. stands e.0 asked) o [])
        first_stands None is fits then_so = tt
        first_stands (Some e) is fits then_so = then_so e is fits

  -- ---- the first that stands for a name

  pub resource_stands : (ss : List Stands) (n r : Name) → AllByRecursion Standing ss → resource_for ss n ≡ Some r → names.resource r ≡ true
  resource_stands [] n r h is = absurd cc
  resource_stands (ForResource a x ∷ ss) n r h is = of (same_name a n) is (resource_stands ss n r h.1)
    where
      of : (b : Bool) → cond b (Some x) (resource_for ss n) ≡ Some r → (resource_for ss n ≡ Some r → names.resource r ≡ true) → names.resource r ≡ true
      of true is rest = let same : x ≡ r = cc in ap names.resource (sym same) ∙ h.0
      of false is rest = rest is
  resource_stands (ForPlace a p ∷ ss) n r h is = resource_stands ss n r h.1 is

  pub place_stands_for : (ss : List Stands) (n p : Name) → AllByRecursion Standing ss → place_for ss n ≡ Some (Some p) → (t : ValueTree) × (asked_names.tree n ≡ Some t) × (names.tree p ≡ Some (value_by (changing f g) 0 t))
  place_stands_for [] n p h is = absurd cc
  place_stands_for (ForResource a x ∷ ss) n p h is = place_stands_for ss n p h.1 is
  place_stands_for (ForPlace a x ∷ ss) n p h is = of (same_name a n) refl is (place_stands_for ss n p h.1)
    where
      of : (b : Bool) → same_name a n ≡ b → cond b (Some x) (place_for ss n) ≡ Some (Some p) → (place_for ss n ≡ Some (Some p) → (t : ValueTree) × (asked_names.tree n ≡ Some t) × (names.tree p ≡ Some (value_by (changing f g) 0 t)))
          → (t : ValueTree) × (asked_names.tree n ≡ Some t) × (names.tree p ≡ Some (value_by (changing f g) 0 t))
      of true eq is rest =
          let at : a ≡ n = same_is a n eq in
          let given : x ≡ Some p = cc in
          let all : Standing (ForPlace n (Some p)) = subst (λ x. Standing (ForPlace n x)) given (subst (λ a. Standing (ForPlace a x)) at h.0) in all
      of false eq is rest = rest is

pub same_type : (f g : Name → Name) (names asked_names : Names) (given asked : EntityTree) → Coheres names given → Coheres asked_names asked → fits_with same_name given (entity_by (changing f g) 0 asked) ≡ true → (n p : Name) → place_for (stands given asked) n ≡ Some (Some p) → SameType f g names asked_names p n
same_type f g names asked_names given asked h k fits n p is =
    let found = place_stands_for f g names asked_names (stands given asked) n p (stands_kept f g names asked_names given asked h k fits) is in
    record { ty = found.0; asked_is = found.1; given_is = found.2 }
