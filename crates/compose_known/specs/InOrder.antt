-- Entities in which names stand in order, as they do in each shape that is read (Component Model, Explainer.md, "Type
-- Definitions").
use Rattle.std.specs.Prelude.{◌≡◌, Bool, true, false, List, [], map, filter, nat_lt, Some, option_to_list}
use Rattle.comp_entity.specs.Entity.{Name, ValueTree, TypeShapeTree, Value, Resource, Func, Instance, Component, EntityTree, IsType, IsFunc, IsInstance, IsComponent, IsModule, IsOwnModule, Entries, no_entry, entry}
use Rattle.comp_entity.specs.Fits.{place_of}
use Rattle.compose_left.specs.declared.spots.Thing.{Thing}
use Rattle.compose_left.specs.Spots.{named_type}
use Rattle.compose_needs.specs.declared.leaves.Leaf.{Leaf}
use Rattle.compose_needs.specs.declared.place.Place.{Place}
use Rattle.compose_needs.specs.Leaves.{leaves_among}
use Rattle.compose_needs.specs.Mentioned.{has, mentioned}
use Rattle.compose_needs.specs.Tied.{are_tied}
use Rattle.compose_writing.specs.Conditions.{unnamed}

-- what a value type mentions, the place that named it set aside
abbrev pub parts_mention : ValueTree → List Thing
parts_mention t = mentioned (IsType (Value (unnamed t)))

-- within it, a value type does not mention that place
abbrev pub IsApart : ValueTree → Type 0
IsApart t = (n : Name) → place_of t ≡ Some n → has (parts_mention t) (named_type n) ≡ false

-- what an instance's type mentions of its own scope
abbrev pub is_of_scope : Thing → Bool
is_of_scope t = nat_lt t.out 1

abbrev pub scope_place : Leaf → Place
scope_place l = record { named = option_to_list l.named; asked = filter is_of_scope l.mentioned }

abbrev pub is_instance_tied : Entries → Bool
is_instance_tied es = are_tied [] (map scope_place (leaves_among [] es))

-- Types of instances name what they mention of their own scope there or earlier, and no value type mentions within it
-- the place that named it.
abbrev mutual
  pub TypeInOrder : TypeShapeTree → Type 0
  TypeInOrder (Value t) = IsApart t
  TypeInOrder (Resource r) = Unit {0}
  TypeInOrder (Func f) = Unit {0}
  TypeInOrder (Instance es) = (is_instance_tied es ≡ true) × AreInOrder es
  TypeInOrder (Component is es) = AreInOrder is × AreInOrder es

  pub IsInOrder : EntityTree → Type 0
  IsInOrder (IsType t) = TypeInOrder t
  IsInOrder (IsFunc f) = Unit {0}
  IsInOrder (IsInstance es) = AreInOrder es
  IsInOrder (IsComponent is es) = AreInOrder is × AreInOrder es
  IsInOrder (IsModule m) = Unit {0}
  IsInOrder IsOwnModule = Unit {0}

  pub AreInOrder : Entries → Type 0
  AreInOrder no_entry = Unit {0}
  AreInOrder (entry name e mark es) = IsInOrder e × AreInOrder es
