-- Entities in which each type has the name of the place that named it, as an import or an export of a type gives it one
-- (Component Model, Explainer.md, "Import and Export Definitions").
use Rattle.std.specs.Prelude.{IsSome}
use Rattle.comp_entity.specs.Entity.{ValueTree, RecordOf, VariantOf, FlagsOf, EnumOf, TypeShapeTree, Value, EntityTree, IsType, IsInstance, Entries, no_entry, entry}

-- of value types, records, variants, flags and enums have one
abbrev pub HasPlace : ValueTree → Type 0
HasPlace (RecordOf place fields) = IsSome place
HasPlace (VariantOf place cases) = IsSome place
HasPlace (FlagsOf place labels) = IsSome place
HasPlace (EnumOf place labels) = IsSome place
HasPlace _ = Unit {0}

abbrev pub TypeHasPlace : TypeShapeTree → Type 0
TypeHasPlace (Value t) = HasPlace t
TypeHasPlace _ = Unit {0}

-- what stands in an entity as a type, instances gone into
abbrev mutual
  pub HasPlaces : EntityTree → Type 0
  HasPlaces (IsType t) = TypeHasPlace t
  HasPlaces (IsInstance es) = HavePlaces es
  HasPlaces _ = Unit {0}

  pub HavePlaces : Entries → Type 0
  HavePlaces no_entry = Unit {0}
  HavePlaces (entry name e mark es) = HasPlaces e × HavePlaces es
