-- The types that a place named, wherever a shape mentions them (Component Model, Explainer.md, "Import and Export
-- Definitions").
use Rattle.std.specs.Prelude.{◌≡◌, ℕ, suc, ◌≤◌, List, [], ◌∷◌, ◌++◌, flat_map, Option, Some, None, option_to_list}
use Rattle.std.specs.List.{Contains}
use Rattle.comp_entity.specs.Entity.{Name, ValueTree, Primitive, TupleOf, RecordOf, VariantOf, ListOf, FlagsOf, EnumOf, OptionOf, ResultOf, Own, Borrow, ValueTrees, none, more, Cases, no_case, labelled, Payload, absent, present, FuncTree, TypeShapeTree, Value, Resource, Func, Instance, Component, EntityTree, IsType, IsFunc, IsInstance, IsComponent, IsModule, IsOwnModule, Entries, no_entry, entry, ShapeTree}
use Rattle.comp_coherence.specs.Coherence.{bare_value, inward, outward}

-- A type with the place that named it, mentioned so many scopes deep within a tree.
pub record NamedType : Type 0 where
  pub depth : ℕ
  pub place : Name
  pub tree : ValueTree

abbrev pub named_at : ℕ → ValueTree → Option Name → List NamedType
named_at d t (Some n) = record { depth = d; place = n; tree = t } ∷ []
named_at d t None = []

-- the types in a tree that a place named, from left to right
abbrev mutual
  pub named_in_value : ℕ → ValueTree → List NamedType
  named_in_value d (Primitive p) = []
  named_in_value d (TupleOf parts) = named_in_values d parts
  named_in_value d (RecordOf place fields) = named_at d (RecordOf place fields) place ++ named_in_cases d fields
  named_in_value d (VariantOf place cases) = named_at d (VariantOf place cases) place ++ named_in_cases d cases
  named_in_value d (ListOf t) = named_in_value d t
  named_in_value d (FlagsOf place labels) = named_at d (FlagsOf place labels) place
  named_in_value d (EnumOf place labels) = named_at d (EnumOf place labels) place
  named_in_value d (OptionOf t) = named_in_value d t
  named_in_value d (ResultOf ok err) = named_in_payload d ok ++ named_in_payload d err
  named_in_value d (Own r) = []
  named_in_value d (Borrow r) = []

  pub named_in_values : ℕ → ValueTrees → List NamedType
  named_in_values d none = []
  named_in_values d (more t ts) = named_in_value d t ++ named_in_values d ts

  pub named_in_cases : ℕ → Cases → List NamedType
  named_in_cases d no_case = []
  named_in_cases d (labelled label payload cases) = named_in_payload d payload ++ named_in_cases d cases

  pub named_in_payload : ℕ → Payload → List NamedType
  named_in_payload d absent = []
  named_in_payload d (present t) = named_in_value d t

abbrev pub named_in_func : ℕ → FuncTree → List NamedType
named_in_func d f =
    flat_map (λ p. named_in_value d p.1) f.params ++ flat_map (named_in_value d) (option_to_list f.result)

abbrev mutual
  pub named_in_type : ℕ → TypeShapeTree → List NamedType
  named_in_type d (Value t) = named_in_value d t
  named_in_type d (Resource r) = []
  named_in_type d (Func f) = named_in_func d f
  named_in_type d (Instance exports) = named_in_entries (suc d) exports
  named_in_type d (Component imports exports) =
      named_in_entries (suc (suc d)) imports ++ named_in_entries (suc (suc d)) exports

  pub named_in_entity : ℕ → EntityTree → List NamedType
  named_in_entity d (IsType t) = named_in_type d t
  named_in_entity d (IsFunc f) = named_in_func d f
  named_in_entity d (IsInstance exports) = named_in_entries d exports
  named_in_entity d (IsComponent imports exports) =
      named_in_entries (suc (suc d)) imports ++ named_in_entries (suc (suc d)) exports
  named_in_entity d (IsModule m) = []
  named_in_entity d IsOwnModule = []

  pub named_in_entries : ℕ → Entries → List NamedType
  named_in_entries d no_entry = []
  named_in_entries d (entry name e mark es) = named_in_entity d e ++ named_in_entries d es

-- those of a shape, imports first
abbrev pub named_in : ShapeTree → List NamedType
named_in s = flat_map (λ e. named_in_entity 0 e.1) (s.imports ++ s.exports)

-- a place that has its name in the outermost scope
abbrev pub IsOutermost : NamedType → Type 0
IsOutermost m = m.depth ≤ m.place.out

-- a type, as it is called where it is mentioned, which places named types within it set aside
abbrev pub StandsAs : ValueTree → NamedType → Type 0
StandsAs t m = bare_value m.tree ≡ inward m.depth t

-- Any two types in a shape whose places have one name in its outermost scope are one type.
abbrev pub NamesAgree : ShapeTree → Type 0
NamesAgree s = (one other : NamedType) → Contains (named_in s) one → Contains (named_in s) other
    → IsOutermost one → IsOutermost other → outward one.depth one.place ≡ outward other.depth other.place
    → (t : ValueTree) × StandsAs t one × StandsAs t other
