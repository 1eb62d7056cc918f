-- How large trees are, and the bounds that are kept when a shape is read.
use Rattle.std.specs.Prelude.{ℕ, ◌+◌, Bool, true, length, map, max, sum, Option, Some, None, Result, Ok, Err, nat_le, if◌then◌else◌}
use Rattle.std.specs.Option.{option_map_or}
use Rattle.comp_entity.specs.declared.module.ModuleShape.{ModuleShape}
use Rattle.comp_entity.specs.Entity.{ValueTree, Primitive, TupleOf, RecordOf, VariantOf, ListOf, FlagsOf, EnumOf, OptionOf, ResultOf, Own, Borrow, ValueTrees, none, more, Cases, no_case, labelled, Payload, absent, present, FuncTree, TypeShapeTree, Value, Resource, Func, Instance, Component, EntityTree, IsType, IsFunc, IsInstance, IsComponent, IsModule, IsOwnModule, Entries, no_entry, entry}

-- how many nodes a tree has
abbrev mutual
  pub value_nodes : ValueTree → ℕ
  value_nodes (Primitive p) = 1
  value_nodes (TupleOf parts) = 1 + parts_nodes parts
  value_nodes (RecordOf place fields) = 1 + cases_nodes fields
  value_nodes (VariantOf place cases) = 1 + cases_nodes cases
  value_nodes (ListOf t) = 1 + value_nodes t
  value_nodes (FlagsOf place labels) = 1
  value_nodes (EnumOf place labels) = 1
  value_nodes (OptionOf t) = 1 + value_nodes t
  value_nodes (ResultOf ok err) = 1 + payload_nodes ok + payload_nodes err
  value_nodes (Own r) = 1
  value_nodes (Borrow r) = 1

  pub parts_nodes : ValueTrees → ℕ
  parts_nodes none = 0
  parts_nodes (more t ts) = value_nodes t + parts_nodes ts

  pub cases_nodes : Cases → ℕ
  cases_nodes no_case = 0
  cases_nodes (labelled label payload cases) = payload_nodes payload + cases_nodes cases

  pub payload_nodes : Payload → ℕ
  payload_nodes absent = 0
  payload_nodes (present t) = value_nodes t

-- how deep a value type is
abbrev mutual
  pub value_depth : ValueTree → ℕ
  value_depth (Primitive p) = 1
  value_depth (TupleOf parts) = 1 + parts_depth parts
  value_depth (RecordOf place fields) = 1 + cases_depth fields
  value_depth (VariantOf place cases) = 1 + cases_depth cases
  value_depth (ListOf t) = 1 + value_depth t
  value_depth (FlagsOf place labels) = 1
  value_depth (EnumOf place labels) = 1
  value_depth (OptionOf t) = 1 + value_depth t
  value_depth (ResultOf ok err) = 1 + max (payload_depth ok) (payload_depth err)
  value_depth (Own r) = 1
  value_depth (Borrow r) = 1

  pub parts_depth : ValueTrees → ℕ
  parts_depth none = 0
  parts_depth (more t ts) = max (value_depth t) (parts_depth ts)

  pub cases_depth : Cases → ℕ
  cases_depth no_case = 0
  cases_depth (labelled label payload cases) = max (payload_depth payload) (cases_depth cases)

  pub payload_depth : Payload → ℕ
  payload_depth absent = 0
  payload_depth (present t) = value_depth t

abbrev pub func_nodes : FuncTree → ℕ
func_nodes f = 1 + sum (map (λ p. value_nodes p.1) f.params) + option_map_or value_nodes f.result 0

abbrev pub module_nodes : ModuleShape → ℕ
module_nodes m = 1 + length m.imports + length m.exports

abbrev mutual
  pub type_nodes : TypeShapeTree → ℕ
  type_nodes (Value t) = value_nodes t
  type_nodes (Resource r) = 1
  type_nodes (Func f) = func_nodes f
  type_nodes (Instance exports) = 1 + entries_nodes exports
  type_nodes (Component imports exports) = 1 + entries_nodes imports + entries_nodes exports

  pub entity_nodes : EntityTree → ℕ
  entity_nodes (IsType t) = type_nodes t
  entity_nodes (IsFunc f) = func_nodes f
  entity_nodes (IsInstance exports) = 1 + entries_nodes exports
  entity_nodes (IsComponent imports exports) = 1 + entries_nodes imports + entries_nodes exports
  entity_nodes (IsModule m) = module_nodes m
  entity_nodes IsOwnModule = 1

  pub entries_nodes : Entries → ℕ
  entries_nodes no_entry = 0
  entries_nodes (entry name e mark es) = entity_nodes e + entries_nodes es

-- Why a component has no shape: an index, a sort or a name that a rule refuses; an argument, or an export with a
-- description, that does not fit; or a bound that is passed.
pub data ShapeFault : Type 0 where
  Index : ShapeFault
  DoesNotFit : ShapeFault
  TooDeep : ShapeFault
  TooBig : ShapeFault

-- the largest number of open scopes, the largest depth of a value type, and the largest number of nodes of an entity,
-- where there is such a bound
pub record Bounds : Type 0 where
  pub scopes : Option ℕ
  pub depth : Option ℕ
  pub nodes : Option ℕ

abbrev pub unbounded : Bounds
unbounded = record { scopes = None; depth = None; nodes = None }

-- 32 scopes, the outermost component among them, value types 100 deep, and a million nodes
abbrev pub bounded : Bounds
bounded = record { scopes = Some 32; depth = Some 100; nodes = Some 1000000 }

abbrev pub is_within : Option ℕ → ℕ → Bool
is_within bound n = option_map_or (λ most. nat_le n most) bound true

-- the depth of an entity that is a value type
abbrev pub depth_of : EntityTree → ℕ
depth_of (IsType (Value t)) = value_depth t
depth_of _ = 0

-- an entity, where it keeps the bounds
abbrev pub kept : {X : Type 0} → Bounds → EntityTree → X → Result X ShapeFault
kept b e x =
    if is_within b.depth (depth_of e) then (if is_within b.nodes (entity_nodes e) then Ok x else Err TooBig)
    else Err TooDeep
