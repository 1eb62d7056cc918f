-- Entities in which each field of a record has a type (Component Model, Binary.md, "defvaltype"). What is in memory, and
-- what is read from bytes, is so.
use Rattle.std.specs.Prelude.{Option, Some, None}
use Rattle.std.specs.List.{AllByRecursion}
use Rattle.comp_entity.specs.Entity.{ValueTree, Primitive, TupleOf, RecordOf, VariantOf, ListOf, FlagsOf, EnumOf, OptionOf, ResultOf, Own, Borrow, ValueTrees, none, more, Cases, no_case, labelled, Payload, absent, present, FuncTree, TypeShapeTree, Value, Resource, Func, Instance, Component, EntityTree, IsType, IsFunc, IsInstance, IsComponent, IsModule, IsOwnModule, Entries, no_entry, entry}

abbrev mutual
  pub HasFields : ValueTree → Type 0
  HasFields (Primitive p) = Unit {0}
  HasFields (TupleOf ts) = AllHaveFields ts
  HasFields (RecordOf place fields) = AreFields fields
  HasFields (VariantOf place cases) = CasesHaveFields cases
  HasFields (ListOf t) = HasFields t
  HasFields (FlagsOf place labels) = Unit {0}
  HasFields (EnumOf place labels) = Unit {0}
  HasFields (OptionOf t) = HasFields t
  HasFields (ResultOf ok err) = HeldHasFields ok × HeldHasFields err
  HasFields (Own r) = Unit {0}
  HasFields (Borrow r) = Unit {0}

  pub AllHaveFields : ValueTrees → Type 0
  AllHaveFields none = Unit {0}
  AllHaveFields (more t ts) = HasFields t × AllHaveFields ts

  pub AreFields : Cases → Type 0
  AreFields no_case = Unit {0}
  AreFields (labelled label absent fields) = ⊥
  AreFields (labelled label (present t) fields) = HasFields t × AreFields fields

  pub CasesHaveFields : Cases → Type 0
  CasesHaveFields no_case = Unit {0}
  CasesHaveFields (labelled label payload cases) = HeldHasFields payload × CasesHaveFields cases

  pub HeldHasFields : Payload → Type 0
  HeldHasFields absent = Unit {0}
  HeldHasFields (present t) = HasFields t

abbrev pub ResultHasFields : Option ValueTree → Type 0
ResultHasFields None = Unit {0}
ResultHasFields (Some t) = HasFields t

abbrev pub FuncHasFields : FuncTree → Type 0
FuncHasFields f = AllByRecursion (λ p. HasFields p.1) f.params × ResultHasFields f.result

abbrev mutual
  pub TypeHasFields : TypeShapeTree → Type 0
  TypeHasFields (Value t) = HasFields t
  TypeHasFields (Resource r) = Unit {0}
  TypeHasFields (Func f) = FuncHasFields f
  TypeHasFields (Instance exports) = EntriesHaveFields exports
  TypeHasFields (Component imports exports) = EntriesHaveFields imports × EntriesHaveFields exports

  pub EntityHasFields : EntityTree → Type 0
  EntityHasFields (IsType t) = TypeHasFields t
  EntityHasFields (IsFunc f) = FuncHasFields f
  EntityHasFields (IsInstance exports) = EntriesHaveFields exports
  EntityHasFields (IsComponent imports exports) = EntriesHaveFields imports × EntriesHaveFields exports
  EntityHasFields (IsModule m) = Unit {0}
  EntityHasFields IsOwnModule = Unit {0}

  pub EntriesHaveFields : Entries → Type 0
  EntriesHaveFields no_entry = Unit {0}
  EntriesHaveFields (entry name e mark es) = EntityHasFields e × EntriesHaveFields es
