-- What a caller sees to, so that entities can be written.
use Rattle.std.specs.Prelude.{◌≡◌, ℕ, ◌<◌, ◌≤◌, Bool, true, ◌||◌, List, [], ◌∷◌, length, map, All, IfSome, Option, Some, None, option_and_then, is_some, if◌then◌else◌}
use Rattle.std.specs.List.{list_any, list_all}
use Rattle.comp_format.specs.CoreTypes.{is_reference}
use Rattle.comp_format.specs.Forms.{AreLabels}
use Rattle.comp_entity.specs.declared.module.CoreShape.{CoreShape}
use Rattle.comp_entity.specs.declared.module.CoreShape.TheVariants as core_shape
use Rattle.comp_entity.specs.declared.module.ModuleShape.{ModuleShape}
use Rattle.comp_entity.specs.Entity.{ValueTree, Primitive, TupleOf, RecordOf, VariantOf, ListOf, FlagsOf, EnumOf, OptionOf, ResultOf, Own, Borrow, ValueTrees, none, more, Cases, no_case, labelled, Payload, absent, present, FuncTree, TypeShapeTree, Value, Resource, Func, Instance, Component, EntityTree, IsType, IsFunc, IsInstance, IsComponent, IsModule, IsOwnModule, Entries, no_entry, entry}
use Rattle.comp_entity.specs.Names.{Mention, OfResource, in_value, in_func}
use Rattle.comp_entity.specs.Fits.{place_of}
use Rattle.comp_entity.specs.Places.{same_mention, named_value}
use Rattle.compose_writing.specs.Keys.{from_within}

-- ---- Entities that have a written form: names that are not empty, labels that differ, at least one part, at most 32
-- flags, and tables of references.

abbrev pub labels_of : Cases → List (List ℕ)
labels_of no_case = []
labels_of (labelled label payload cases) = label ∷ labels_of cases

abbrev pub HasPart : ValueTrees → Type 0
HasPart none = ⊥
HasPart (more t ts) = Unit {0}

abbrev pub IsThere : Payload → Type 0
IsThere absent = ⊥
IsThere (present t) = Unit {0}

-- each field of a record has a type
abbrev pub AreFields : Cases → Type 0
AreFields no_case = Unit {0}
AreFields (labelled label payload cases) = IsThere payload × AreFields cases

abbrev pub AreLabelled : Cases → Type 0
AreLabelled cases = (0 < length (labels_of cases)) × AreLabels (labels_of cases)

abbrev mutual
  pub KeepsValue : ValueTree → Type 0
  KeepsValue (Primitive p) = Unit {0}
  KeepsValue (TupleOf parts) = HasPart parts × KeepsValues parts
  KeepsValue (RecordOf place fields) = AreLabelled fields × AreFields fields × KeepsCases fields
  KeepsValue (VariantOf place cases) = AreLabelled cases × KeepsCases cases
  KeepsValue (ListOf t) = KeepsValue t
  KeepsValue (FlagsOf place labels) = (0 < length labels) × (length labels ≤ 32) × AreLabels labels
  KeepsValue (EnumOf place labels) = (0 < length labels) × AreLabels labels
  KeepsValue (OptionOf t) = KeepsValue t
  KeepsValue (ResultOf ok err) = KeepsPayload ok × KeepsPayload err
  KeepsValue (Own r) = Unit {0}
  KeepsValue (Borrow r) = Unit {0}

  pub KeepsValues : ValueTrees → Type 0
  KeepsValues none = Unit {0}
  KeepsValues (more t ts) = KeepsValue t × KeepsValues ts

  pub KeepsCases : Cases → Type 0
  KeepsCases no_case = Unit {0}
  KeepsCases (labelled label payload cases) = KeepsPayload payload × KeepsCases cases

  pub KeepsPayload : Payload → Type 0
  KeepsPayload absent = Unit {0}
  KeepsPayload (present t) = KeepsValue t

abbrev pub KeepsFunc : FuncTree → Type 0
KeepsFunc f = AreLabels (map (λ p. p.0) f.params) × All (λ p. KeepsValue p.1) f.params × IfSome f.result KeepsValue

abbrev pub KeepsCore : CoreShape → Type 0
KeepsCore (core_shape.Func params results) = Unit {0}
KeepsCore (core_shape.Table element limits) = is_reference element ≡ true
KeepsCore (core_shape.Memory limits) = Unit {0}
KeepsCore (core_shape.Global v is_mutable) = Unit {0}

pub record KeepsModule (m : ModuleShape) : Type 0 where
  pub imports : All (λ i. KeepsCore i.2) m.imports
  pub exports : All (λ e. KeepsCore e.1) m.exports

abbrev mutual
  pub KeepsType : TypeShapeTree → Type 0
  KeepsType (Value t) = KeepsValue t
  KeepsType (Resource r) = Unit {0}
  KeepsType (Func f) = KeepsFunc f
  KeepsType (Instance es) = KeepsEntries es
  KeepsType (Component is es) = KeepsEntries is × KeepsEntries es

  pub KeepsForm : EntityTree → Type 0
  KeepsForm (IsType t) = KeepsType t
  KeepsForm (IsFunc f) = KeepsFunc f
  KeepsForm (IsInstance es) = KeepsEntries es
  KeepsForm (IsComponent is es) = KeepsEntries is × KeepsEntries es
  KeepsForm (IsModule m) = KeepsModule m
  KeepsForm IsOwnModule = ⊥

  pub KeepsEntries : Entries → Type 0
  KeepsEntries no_entry = Unit {0}
  KeepsEntries (entry name e mark es) = (0 < length name) × KeepsForm e × KeepsEntries es

-- ---- Entities that mention nothing but what is known, or what they themselves bring, there or before.

abbrev pub with_these : (Mention → Bool) → List Mention → Mention → Bool
with_these known keys m = known m || list_any (λ key. same_mention key m) keys

abbrev pub all_known : (Mention → Bool) → List (ℕ × Mention) → Bool
all_known known ms = list_all (λ m. known m.1) ms

-- a value type without the place that named it
abbrev pub unnamed : ValueTree → ValueTree
unnamed (RecordOf place fields) = RecordOf None fields
unnamed (VariantOf place cases) = VariantOf None cases
unnamed (FlagsOf place labels) = FlagsOf None labels
unnamed (EnumOf place labels) = EnumOf None labels
unnamed t = t

abbrev pub if_all : (Mention → Bool) → List (ℕ × Mention) → (Mention → Bool) → Option (Mention → Bool)
if_all known ms next = if all_known known ms then Some next else None

-- the same is known behind what brings nothing
abbrev pub if_scope : (Mention → Bool) → Option (Mention → Bool) → Option (Mention → Bool)
if_scope known within = if is_some within then Some known else None

-- What is known behind an entity; nothing where it mentions what is not known. Scopes within it mention what is known
-- around them, and what they bring.
abbrev mutual
  pub known_behind : (Mention → Bool) → EntityTree → Option (Mention → Bool)
  known_behind known (IsType t) = type_known_behind known t
  known_behind known (IsFunc f) = if_all known (in_func 0 f) known
  known_behind known (IsInstance es) = entries_known_behind known es
  known_behind known (IsComponent is es) =
      if_scope known (option_and_then (λ next. entries_known_behind next es) (entries_known_behind (from_within 2 known) is))
  known_behind known (IsModule m) = Some known
  known_behind known IsOwnModule = None

  pub type_known_behind : (Mention → Bool) → TypeShapeTree → Option (Mention → Bool)
  type_known_behind known (Value t) = if_all known (in_value 0 (unnamed t)) (with_these known (named_value (place_of t)))
  type_known_behind known (Resource r) = Some (with_these known (OfResource r ∷ []))
  type_known_behind known (Func f) = if_all known (in_func 0 f) known
  type_known_behind known (Instance es) = if_scope known (entries_known_behind (from_within 1 known) es)
  type_known_behind known (Component is es) =
      if_scope known (option_and_then (λ next. entries_known_behind next es) (entries_known_behind (from_within 2 known) is))

  pub entries_known_behind : (Mention → Bool) → Entries → Option (Mention → Bool)
  entries_known_behind known no_entry = Some known
  entries_known_behind known (entry name e mark es) =
      option_and_then (λ next. entries_known_behind next es) (known_behind known e)

abbrev pub is_known : (Mention → Bool) → EntityTree → Bool
is_known known e = is_some (known_behind known e)

-- the exports of an instance, and the imports and exports of a component
abbrev pub are_known : (Mention → Bool) → Entries → Bool
are_known known es = is_some (entries_known_behind known es)

abbrev pub sides_known : (Mention → Bool) → Entries → Entries → Bool
sides_known known is es =
    is_some (option_and_then (λ next. entries_known_behind next es) (entries_known_behind (from_within 2 known) is))
