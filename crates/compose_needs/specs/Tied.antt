-- What is mentioned is named at the place of the mention, or at an earlier one.
use Rattle.std.specs.Prelude.{◌≡◌, Bool, true, ◌&&◌, List, [], ◌∷◌, ◌++◌, map, flat_map, filter, nat_lt, option_to_list}
use Rattle.std.specs.List.{list_all}
use Rattle.comp_entity.specs.Entity.{TypeShapeTree, Value, Resource, Func, Instance, Component, EntityTree, IsType, IsFunc, IsInstance, IsComponent, IsModule, IsOwnModule, Entries, no_entry, entry}
use Rattle.compose_left.specs.declared.spots.Thing.{Thing}
use Rattle.compose_needs.specs.declared.leaves.Leaf.{Leaf}
use Rattle.compose_needs.specs.declared.place.Place.{Place}
use Rattle.compose_needs.specs.Leaves.{leaves_among}
use Rattle.compose_needs.specs.Mentioned.{has}

-- Of each place in turn, what is mentioned there is among what is named there or before.
abbrev pub are_tied : List Thing → List Place → Bool
are_tied seen [] = true
are_tied seen (p ∷ ps) = list_all (has (seen ++ p.named)) p.asked && are_tied (seen ++ p.named) ps

abbrev pub named_in : List Place → List Thing
named_in ps = flat_map (λ (p : Place). p.named) ps

abbrev pub Places : Type 0
Places = List Place

-- the same in the words of the rule: what a place mentions is named at one of the places up to it
abbrev pub AreTied : List Place → Type 0
AreTied ps = (before after : List Place) (p : Place) (t : Thing) → ps ≡ before ++ p ∷ after
    → has p.asked t ≡ true → has (named_in (before ++ p ∷ [])) t ≡ true

-- ---- within a component

-- a component is two scopes: of what its imports bring, and of what it makes
abbrev pub is_near : Thing → Bool
is_near t = nat_lt t.out 2

abbrev pub near_place : Leaf → Place
near_place l = record { named = option_to_list l.named; asked = filter is_near l.mentioned }

-- over the imports, and then the exports
abbrev pub are_sides_tied : Entries → Entries → Bool
are_sides_tied is es = are_tied [] (map near_place (leaves_among [] is ++ leaves_among [] es))

-- whether the components that stand anywhere in an entity, and the types of components, are tied so
abbrev mutual
  pub type_holds_tied : TypeShapeTree → Bool
  type_holds_tied (Value t) = true
  type_holds_tied (Resource r) = true
  type_holds_tied (Func f) = true
  type_holds_tied (Instance es) = entries_hold_tied es
  type_holds_tied (Component is es) = are_sides_tied is es && (entries_hold_tied is && entries_hold_tied es)

  pub entity_holds_tied : EntityTree → Bool
  entity_holds_tied (IsType t) = type_holds_tied t
  entity_holds_tied (IsFunc f) = true
  entity_holds_tied (IsInstance es) = entries_hold_tied es
  entity_holds_tied (IsComponent is es) = are_sides_tied is es && (entries_hold_tied is && entries_hold_tied es)
  entity_holds_tied (IsModule m) = true
  entity_holds_tied IsOwnModule = true

  pub entries_hold_tied : Entries → Bool
  entries_hold_tied no_entry = true
  entries_hold_tied (entry name e mark es) = entity_holds_tied e && entries_hold_tied es
