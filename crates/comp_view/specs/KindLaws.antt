-- Laws of kinds: the tree of heads of an entity is of what can lie in memory where each field of its records has a type,
-- and no core module of a component's own stands in it.
use Rattle.std.specs.Prelude.{ℕ, List, [], ◌∷◌, map, Option, Some, None}
use Rattle.std.specs.List.{AllByRecursion}
use Rattle.comp_format.specs.declared.core_types.CoreVal.{CoreVal}
use Rattle.comp_entity.specs.declared.module.CoreShape.{CoreShape}
use Rattle.comp_entity.specs.declared.module.CoreShape.TheVariants as core
use Rattle.comp_entity.specs.declared.module.ModuleShape.{ModuleShape}
use Rattle.comp_entity.specs.Entity.{ValueTree, Primitive, TupleOf, RecordOf, VariantOf, ListOf, FlagsOf, EnumOf, OptionOf, ResultOf, Own, Borrow, ValueTrees, Cases, no_case, labelled, Payload, absent, present, FuncTree, TypeShapeTree, Value, Resource, Func, Instance, Component, EntityTree, IsType, IsFunc, IsInstance, IsComponent, IsModule, IsOwnModule, Entries, no_entry, entry}
use Rattle.comp_entity.specs.Entity as entity
use Rattle.comp_table.specs.Plain.{plain_labels, plain_value, plain_values, plain_cases, plain_payload, plain_result, plain_param, plain_func, plain_core, plain_import, plain_export, plain_module, plain_type, plain_entity, plain_entries}
use Rattle.comp_table.specs.Rows.{core_value_plain}
use Rattle.comp_table.specs.Shown.{IsShownType, IsShown, AreShown}
use Rattle.comp_table.specs.Trees.{trees_of}
use Rattle.comp_view.specs.Fields.{HasFields, AllHaveFields, AreFields, CasesHaveFields, HeldHasFields, ResultHasFields, FuncHasFields, TypeHasFields, EntityHasFields, EntriesHaveFields}
use Rattle.comp_view.specs.Kinds.{all, IsTreeOf, AreTreesOf}
use Rattle.comp_view.specs.Kinds as kind

labels_lie : (ls : List (List ℕ)) → AreTreesOf (all kind.LabelAlone) (plain_labels ls)
labels_lie [] = tt
labels_lie (l ∷ ls) = (tt, labels_lie ls)

mutual
  pub value_lies : (v : ValueTree) → HasFields v → IsTreeOf kind.ValueType (plain_value v)
  value_lies (Primitive p) h = tt
  value_lies (TupleOf ts) h = values_lie ts h
  value_lies (RecordOf place fields) h = fields_lie fields h
  value_lies (VariantOf place cases) h = cases_lie cases h
  value_lies (ListOf t) h = value_lies t h
  value_lies (FlagsOf place labels) h = labels_lie labels
  value_lies (EnumOf place labels) h = labels_lie labels
  value_lies (OptionOf t) h = value_lies t h
  value_lies (ResultOf ok err) h = (held_lies ok h.0, held_lies err h.1)
  value_lies (Own r) h = tt
  value_lies (Borrow r) h = tt

  values_lie : (ts : ValueTrees) → AllHaveFields ts → AreTreesOf (all kind.ValueType) (plain_values ts)
  values_lie entity.none h = tt
  values_lie (entity.more t ts) h = (value_lies t h.0, values_lie ts h.1)

  fields_lie : (fs : Cases) → AreFields fs → AreTreesOf (all kind.Field) (plain_cases fs)
  fields_lie no_case h = tt
  fields_lie (labelled label absent fs) h = absurd h
  fields_lie (labelled label (present t) fs) h = (value_lies t h.0, fields_lie fs h.1)

  cases_lie : (cs : Cases) → CasesHaveFields cs → AreTreesOf (all kind.Case) (plain_cases cs)
  cases_lie no_case h = tt
  cases_lie (labelled label payload cs) h = (held_lies payload h.0, cases_lie cs h.1)

  held_lies : (p : Payload) → HeldHasFields p → IsTreeOf kind.Held (plain_payload p)
  held_lies absent h = tt
  held_lies (present t) h = held_value t (value_lies t h)

  -- a value type may be held
  held_value : (v : ValueTree) → IsTreeOf kind.ValueType (plain_value v) → IsTreeOf kind.Held (plain_value v)
  held_value (Primitive p) h = h
  held_value (TupleOf ts) h = h
  held_value (RecordOf place fields) h = h
  held_value (VariantOf place cases) h = h
  held_value (ListOf t) h = h
  held_value (FlagsOf place labels) h = h
  held_value (EnumOf place labels) h = h
  held_value (OptionOf t) h = h
  held_value (ResultOf ok err) h = h
  held_value (Own r) h = h
  held_value (Borrow r) h = h

-- a value type is a type, and a type is an entity
value_as_entity : (v : ValueTree) → IsTreeOf kind.ValueType (plain_value v) → IsTreeOf kind.AnyEntity (plain_value v)
value_as_entity (Primitive p) h = h
value_as_entity (TupleOf ts) h = h
value_as_entity (RecordOf place fields) h = h
value_as_entity (VariantOf place cases) h = h
value_as_entity (ListOf t) h = h
value_as_entity (FlagsOf place labels) h = h
value_as_entity (EnumOf place labels) h = h
value_as_entity (OptionOf t) h = h
value_as_entity (ResultOf ok err) h = h
value_as_entity (Own r) h = h
value_as_entity (Borrow r) h = h

result_lies : (r : Option ValueTree) → ResultHasFields r → IsTreeOf kind.Held (plain_result r)
result_lies None h = tt
result_lies (Some t) h = held_value t (value_lies t h)

params_lie : (ps : List (List ℕ × ValueTree)) → AllByRecursion (λ p. HasFields p.1) ps → AreTreesOf (all kind.Field) (trees_of (map plain_param ps))
params_lie [] h = tt
params_lie (p ∷ ps) h = (value_lies p.1 h.0, params_lie ps h.1)

pub func_lies : (f : FuncTree) → FuncHasFields f → IsTreeOf kind.FuncType (plain_func f)
func_lies f h = (result_lies f.result h.1, params_lie f.params h.0)

core_values_lie : (vs : List CoreVal) → AreTreesOf (all kind.CoreValue) (trees_of (map core_value_plain vs))
core_values_lie [] = tt
core_values_lie (v ∷ vs) = (tt, core_values_lie vs)

core_lies : (c : CoreShape) → IsTreeOf kind.CoreItem (plain_core c)
core_lies (core.Func params results) = (core_values_lie params, core_values_lie results)
core_lies (core.Table element limits) = tt
core_lies (core.Memory limits) = tt
core_lies (core.Global v is_mutable) = tt

imports_lie : (xs : List (List ℕ × List ℕ × CoreShape)) → AreTreesOf (all kind.CoreImport) (trees_of (map plain_import xs))
imports_lie [] = tt
imports_lie (x ∷ xs) = (core_lies x.2, imports_lie xs)

exports_lie : (xs : List (List ℕ × CoreShape)) → AreTreesOf (all kind.CoreExport) (trees_of (map plain_export xs))
exports_lie [] = tt
exports_lie (x ∷ xs) = (core_lies x.1, exports_lie xs)

pub module_lies : (m : ModuleShape) → IsTreeOf kind.AnyEntity (plain_module m)
module_lies m = (imports_lie m.imports, exports_lie m.exports)

mutual
  pub type_lies : (t : TypeShapeTree) → IsShownType t → TypeHasFields t → IsTreeOf kind.AnyEntity (plain_type t)
  type_lies (Value t) s h = value_as_entity t (value_lies t h)
  type_lies (Resource r) s h = tt
  type_lies (Func f) s h = func_lies f h
  type_lies (Instance exports) s h = entries_lie exports s h
  type_lies (Component imports exports) s h = (entries_lie imports s.0 h.0, entries_lie exports s.1 h.1)

  pub entity_lies : (e : EntityTree) → IsShown e → EntityHasFields e → IsTreeOf kind.AnyEntity (plain_entity e)
  entity_lies (IsType t) s h = type_lies t s h
  entity_lies (IsFunc f) s h = func_lies f h
  entity_lies (IsInstance exports) s h = entries_lie exports s h
  entity_lies (IsComponent imports exports) s h = (entries_lie imports s.0 h.0, entries_lie exports s.1 h.1)
  entity_lies (IsModule m) s h = module_lies m
  entity_lies IsOwnModule s h = absurd s

  pub entries_lie : (es : Entries) → AreShown es → EntriesHaveFields es → AreTreesOf (all kind.AnEntry) (plain_entries es)
  entries_lie no_entry s h = tt
  entries_lie (entry name e mark es) s h = (entity_lies e s.0 h.0, entries_lie es s.1 h.1)
