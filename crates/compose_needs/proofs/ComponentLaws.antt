-- What stands in components that stand in an entity is tied where each of them is.
use Rattle.std.proofs.Common.{◌≡◌, Bool, true, List, [], ◌∷◌, ◌++◌, refl, sym, ap, ◌∙◌}
use Rattle.std.specs.Prelude.{◌&&◌, ◌↔◌}
use Rattle.std.specs.List.{list_all}
use Rattle.std.proofs.lemmas.Bool.{and_parts}
use Rattle.std.proofs.lemmas.List.Folds.{list_all-append}
use Rattle.comp_entity.specs.Entity.{TypeShapeTree, Value, Resource, Func, Instance, Component, EntityTree, IsType, IsFunc, IsInstance, IsComponent, IsModule, IsOwnModule, Entries, no_entry, entry}
use Rattle.comp_entity.specs.Views.{Sides}
use Rattle.compose_needs.specs.Components.{AreEachTied, HoldsTied, components_among, components_in, components_of, side_places}
use Rattle.compose_needs.specs.ThingLaws.{both}
use Rattle.compose_needs.specs.Tied.{are_sides_tied, are_tied, entity_holds_tied, entries_hold_tied, type_holds_tied}
use Rattle.compose_needs.proofs.TiedLaws.{tied_is}

abbrev is_tied : Sides → Bool
is_tied s = are_tied [] (side_places s)

-- two parts, and what they have together
joined : (a b : Bool) (xs ys : List Sides) → a ≡ list_all is_tied xs → b ≡ list_all is_tied ys → (a && b) ≡ list_all is_tied (xs ++ ys)
joined a b xs ys p q = (λ i. p i && q i) ∙ sym (list_all-append is_tied xs ys)

mutual
  types_are : (t : TypeShapeTree) → type_holds_tied t ≡ list_all is_tied (components_of t)
  types_are (Value t) = refl
  types_are (Resource r) = refl
  types_are (Func f) = refl
  types_are (Instance es) = entries_are es
  types_are (Component is es) = ap (λ b. are_sides_tied is es && b) (joined (entries_hold_tied is) (entries_hold_tied es) (components_among is) (components_among es) (entries_are is) (entries_are es))

  entities_are : (e : EntityTree) → entity_holds_tied e ≡ list_all is_tied (components_in e)
  entities_are (IsType t) = types_are t
  entities_are (IsFunc f) = refl
  entities_are (IsInstance es) = entries_are es
  entities_are (IsComponent is es) = ap (λ b. are_sides_tied is es && b) (joined (entries_hold_tied is) (entries_hold_tied es) (components_among is) (components_among es) (entries_are is) (entries_are es))
  entities_are (IsModule m) = refl
  entities_are IsOwnModule = refl

  entries_are : (es : Entries) → entries_hold_tied es ≡ list_all is_tied (components_among es)
  entries_are no_entry = refl
  entries_are (entry name e mark es) = joined (entity_holds_tied e) (entries_hold_tied es) (components_in e) (components_among es) (entities_are e) (entries_are es)

each_sound : (cs : List Sides) → list_all is_tied cs ≡ true → AreEachTied cs
each_sound [] h = tt
each_sound (c ∷ cs) h = let parts = and_parts (is_tied c) (list_all is_tied cs) h in ((tied_is (side_places c)).0 parts.0, each_sound cs parts.1)

each_complete : (cs : List Sides) → AreEachTied cs → list_all is_tied cs ≡ true
each_complete [] h = refl
each_complete (c ∷ cs) h = both (is_tied c) (list_all is_tied cs) ((tied_is (side_places c)).1 h.0) (each_complete cs h.1)

pub holds_is : (e : EntityTree) → (entity_holds_tied e ≡ true) ↔ HoldsTied e
holds_is e = (λ h. each_sound (components_in e) (sym (entities_are e) ∙ h), λ h. entities_are e ∙ each_complete (components_in e) h)
