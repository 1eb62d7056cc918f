-- What stands where an entity was written, is this entity: its names are those that are meant, and what it brings has
-- the naming bit that is meant.
use Rattle.std.specs.Prelude.{◌≡◌, true, Option, Some, None}
use Rattle.comp_entity.specs.Entity.{Name, TypeShapeTree, Value, Resource, Func, Instance, Component, EntityTree, IsType, IsFunc, IsInstance, IsComponent, IsModule, IsOwnModule, Entries, no_entry, entry}
use Rattle.comp_entity.specs.Names.{bare}
use Rattle.comp_entity.specs.Fits.{place_of}
use Rattle.comp_scope.specs.Spaces.{Standing, entity_is_named}
use Rattle.compose_meaning.specs.Meaning.{Meaning, placed_entity}

abbrev pub HasBit : Meaning → Option Name → Standing → Type 0
HasBit mean None s = Unit {0}
HasBit mean (Some n) s = (entity_is_named s.0 ≡ true) × (s.1 ≡ mean.bit n)

abbrev pub HasTypeBit : Meaning → TypeShapeTree → Standing → Type 0
HasTypeBit mean (Value t) s = HasBit mean (place_of t) s
HasTypeBit mean (Resource r) s = s.1 ≡ true
HasTypeBit mean (Func f) s = Unit {0}
HasTypeBit mean (Instance es) s = Unit {0}
HasTypeBit mean (Component is es) s = Unit {0}

abbrev mutual
  pub Shows : Meaning → EntityTree → Standing → Type 0
  Shows mean (IsType t) s = (bare s.0 ≡ placed_entity mean (IsType t)) × HasTypeBit mean t s
  Shows mean (IsFunc f) s = bare s.0 ≡ placed_entity mean (IsFunc f)
  Shows mean (IsInstance es) s = (fs : Entries) × (s.0 ≡ IsInstance fs) × AllShow mean es fs
  Shows mean (IsComponent is es) s = bare s.0 ≡ placed_entity mean (IsComponent is es)
  Shows mean (IsModule m) s = bare s.0 ≡ placed_entity mean (IsModule m)
  Shows mean IsOwnModule s = ⊥

  pub AllShow : Meaning → Entries → Entries → Type 0
  AllShow mean no_entry no_entry = Unit {0}
  AllShow mean no_entry (entry n f q fs) = ⊥
  AllShow mean (entry m e p es) no_entry = ⊥
  AllShow mean (entry m e p es) (entry n f q fs) = (m ≡ n) × Shows mean e (f, q) × AllShow mean es fs
