-- Shapes as trees, wherever they lie in memory.
use Rattle.std.specs.Prelude.{Box, ℕ, List, [], ◌∷◌, map, Option, Some, None, option_map, true}
use Rattle.std.specs.Global.{Global}
use Rattle.comp_entity.specs.declared.entity.ValueShape.{ValueShape, fold-ValueShape}
use Rattle.comp_entity.specs.declared.entity.ValueShape.TheOpen.{ValueShape-F}
use Rattle.comp_entity.specs.declared.entity.ValueShape.TheOpen as value_layer
use Rattle.comp_entity.specs.declared.entity.FuncShape.{FuncShape}
use Rattle.comp_entity.specs.declared.entity.TypeShape.{TypeShape, TypeShape-F, fold-TypeShape}
use Rattle.comp_entity.specs.declared.entity.InstanceShape.{InstanceShape, InstanceShape-F, fold-InstanceShape}
use Rattle.comp_entity.specs.declared.entity.ComponentShape.{ComponentShape, ComponentShape-F, fold-ComponentShape}
use Rattle.comp_entity.specs.declared.entity.Entity.{Entity, Entity-F, fold-Entity}
use Rattle.comp_entity.specs.declared.entity.Entity.TheOpen as layer
use Rattle.comp_entity.specs.declared.entity.Shape.{Shape}
use Rattle.comp_entity.specs.Entity.{ValueTree, Primitive, TupleOf, RecordOf, VariantOf, ListOf, FlagsOf, EnumOf, OptionOf, ResultOf, Own, Borrow, ValueTrees, none, more, Cases, no_case, labelled, Payload, absent, present, FuncTree, TypeShapeTree, Value, Resource, Func, Instance, Component, EntityTree, IsType, IsFunc, IsInstance, IsComponent, IsModule, Entries, no_entry, entry, ShapeTree}

abbrev pub values_of : List ValueTree → ValueTrees
values_of [] = none
values_of (t ∷ ts) = more t (values_of ts)

abbrev pub payload_of : Option ValueTree → Payload
payload_of None = absent
payload_of (Some t) = present t

abbrev pub boxed : Option (Box ValueTree Global) → Payload
boxed None = absent
boxed (Some t) = present t.value

abbrev pub fields_of : List (List ℕ × ValueTree) → Cases
fields_of [] = no_case
fields_of (f ∷ fs) = labelled f.0 (present f.1) (fields_of fs)

abbrev pub cases_of : List (List ℕ × Option ValueTree) → Cases
cases_of [] = no_case
cases_of (c ∷ cs) = labelled c.0 (payload_of c.1) (cases_of cs)

abbrev pub value_step : ValueShape-F ValueTree → ValueTree
value_step (value_layer.Primitive p) = Primitive p
value_step (value_layer.RecordOf place fields) = RecordOf place (fields_of fields.items)
value_step (value_layer.VariantOf place cases) = VariantOf place (cases_of cases.items)
value_step (value_layer.ListOf t) = ListOf t.value
value_step (value_layer.TupleOf parts) = TupleOf (values_of parts.items)
value_step (value_layer.FlagsOf place labels) = FlagsOf place labels
value_step (value_layer.EnumOf place labels) = EnumOf place labels
value_step (value_layer.OptionOf t) = OptionOf t.value
value_step (value_layer.ResultOf ok err) = ResultOf (boxed ok) (boxed err)
value_step (value_layer.Own r) = Own r
value_step (value_layer.Borrow r) = Borrow r

abbrev pub value_tree : ValueShape → ValueTree
value_tree = fold-ValueShape ValueTree value_step

abbrev pub func_tree : FuncShape → FuncTree
func_tree f = record { params = map (λ p. (p.0, value_tree p.1)) f.params.items; result = option_map value_tree f.result }

-- imports or exports, each of which may be named
abbrev pub entries_of : List (List ℕ × EntityTree) → Entries
entries_of [] = no_entry
entries_of (e ∷ es) = entry e.0 e.1 true (entries_of es)

-- what a component imports, and what it exports
pub record Sides : Type 0 where
  pub imports : Entries
  pub exports : Entries

abbrev pub entity_step : Entity-F EntityTree TypeShapeTree Sides Entries → EntityTree
entity_step (layer.«Entity::Func» f) = IsFunc (func_tree f)
entity_step (layer.«Entity::Instance» exports) = IsInstance exports
entity_step (layer.«Entity::Component» sides) = IsComponent sides.imports sides.exports
entity_step (layer.Module m) = IsModule m
entity_step (layer.Ty t) = IsType t

abbrev pub type_step : TypeShape-F EntityTree TypeShapeTree Sides Entries → TypeShapeTree
type_step (layer.Resource r) = Resource r
type_step (layer.Value v) = Value (value_tree v)
type_step (layer.«TypeShape::Func» f) = Func (func_tree f)
type_step (layer.«TypeShape::Instance» exports) = Instance exports
type_step (layer.«TypeShape::Component» sides) = Component sides.imports sides.exports

abbrev pub component_step : ComponentShape-F EntityTree TypeShapeTree Sides Entries → Sides
component_step f = record { imports = entries_of f.imports.items; exports = entries_of f.exports.items }

abbrev pub instance_step : InstanceShape-F EntityTree TypeShapeTree Sides Entries → Entries
instance_step f = entries_of f.exports.items

abbrev pub entity_tree : Entity → EntityTree
entity_tree = fold-Entity EntityTree TypeShapeTree Sides Entries entity_step type_step component_step instance_step

abbrev pub type_tree : TypeShape → TypeShapeTree
type_tree = fold-TypeShape EntityTree TypeShapeTree Sides Entries entity_step type_step component_step instance_step

abbrev pub component_sides : ComponentShape → Sides
component_sides = fold-ComponentShape EntityTree TypeShapeTree Sides Entries entity_step type_step component_step instance_step

abbrev pub instance_entries : InstanceShape → Entries
instance_entries = fold-InstanceShape EntityTree TypeShapeTree Sides Entries entity_step type_step component_step instance_step

abbrev pub named_entities : List (List ℕ × Entity) → List (List ℕ × EntityTree)
named_entities es = map (λ e. (e.0, entity_tree e.1)) es

abbrev pub shape_tree : Shape → ShapeTree
shape_tree s = record { imports = named_entities s.imports.items; exports = named_entities s.exports.items }
