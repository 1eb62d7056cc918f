-- The components, and the types of components, that stand anywhere in an entity.
use Rattle.std.specs.Prelude.{List, [], ◌∷◌, ◌++◌, map}
use Rattle.std.specs.List.{AllByRecursion}
use Rattle.comp_entity.specs.Entity.{TypeShapeTree, Value, Resource, Func, Instance, Component, EntityTree, IsType, IsFunc, IsInstance, IsComponent, IsModule, IsOwnModule, Entries, no_entry, entry}
use Rattle.comp_entity.specs.Views.{Sides}
use Rattle.compose_needs.specs.declared.place.Place.{Place}
use Rattle.compose_needs.specs.Leaves.{leaves_among}
use Rattle.compose_needs.specs.Tied.{AreTied, near_place}

abbrev mutual
  pub components_of : TypeShapeTree → List Sides
  components_of (Value t) = []
  components_of (Resource r) = []
  components_of (Func f) = []
  components_of (Instance es) = components_among es
  components_of (Component is es) = record { imports = is; exports = es } ∷ (components_among is ++ components_among es)

  pub components_in : EntityTree → List Sides
  components_in (IsType t) = components_of t
  components_in (IsFunc f) = []
  components_in (IsInstance es) = components_among es
  components_in (IsComponent is es) = record { imports = is; exports = es } ∷ (components_among is ++ components_among es)
  components_in (IsModule m) = []
  components_in IsOwnModule = []

  pub components_among : Entries → List Sides
  components_among no_entry = []
  components_among (entry name e mark es) = components_in e ++ components_among es

-- the places of a component: of its imports, and then of its exports
abbrev pub side_places : Sides → List Place
side_places s = map near_place (leaves_among [] s.imports ++ leaves_among [] s.exports)

-- what each mentions of its own two scopes is named there or earlier
abbrev pub AreEachTied : List Sides → Type 0
AreEachTied cs = AllByRecursion (λ (s : Sides). AreTied (side_places s)) cs

abbrev pub HoldsTied : EntityTree → Type 0
HoldsTied e = AreEachTied (components_in e)
