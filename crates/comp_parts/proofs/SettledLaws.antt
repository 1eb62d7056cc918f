-- Entities with all naming bits are the same, however deep they stand.
use Rattle.std.proofs.Common.{◌≡◌, ℕ, suc, true, List, [], ◌∷◌, map, Option, Some, None, refl, sym, ◌∙◌, ap}
use Rattle.std.specs.Prelude.{option_map}
use Rattle.comp_entity.specs.Entity.{ValueTree, Primitive, TupleOf, RecordOf, VariantOf, ListOf, FlagsOf, EnumOf, OptionOf, ResultOf, Own, Borrow, ValueTrees, none, more, Cases, no_case, labelled, Payload, absent, present, FuncTree, TypeShapeTree, Value, Resource, Func, Instance, Component, EntityTree, IsType, IsFunc, IsInstance, IsComponent, IsModule, IsOwnModule, Entries, no_entry, entry}
use Rattle.comp_entity.specs.Names.{value_by, values_by, cases_by, payload_by, func_by, type_by, entity_by, entries_by}
use Rattle.comp_entity.specs.declared.entity.ComponentShape.{ComponentShape}
use Rattle.comp_entity.specs.declared.entity.Entity.{fold-roll-Entity}
use Rattle.comp_entity.specs.declared.entity.Entity.TheOpen as layer
use Rattle.comp_entity.specs.declared.entity.Entity.TheVariants as shape
use Rattle.comp_entity.specs.Views.{Sides, entries_of, entity_step, type_step, component_step, instance_step, entity_tree, component_sides, named_entities, shape_tree}
use Rattle.comp_scope.specs.Shape.{settled, listed}
use Rattle.comp_view.specs.RowLaws.{component_is}
use Rattle.comp_parts.specs.Sides.{listed_sides}

mutual
  value_same : (d : ℕ) (v : ValueTree) → value_by settled d v ≡ v
  value_same d (Primitive p) = refl
  value_same d (TupleOf ts) = ap TupleOf (values_same d ts)
  value_same d (RecordOf None fs) = ap (RecordOf None) (cases_same d fs)
  value_same d (RecordOf (Some n) fs) = ap (RecordOf (Some n)) (cases_same d fs)
  value_same d (VariantOf None cs) = ap (VariantOf None) (cases_same d cs)
  value_same d (VariantOf (Some n) cs) = ap (VariantOf (Some n)) (cases_same d cs)
  value_same d (ListOf t) = ap ListOf (value_same d t)
  value_same d (FlagsOf None ls) = refl
  value_same d (FlagsOf (Some n) ls) = refl
  value_same d (EnumOf None ls) = refl
  value_same d (EnumOf (Some n) ls) = refl
  value_same d (OptionOf t) = ap OptionOf (value_same d t)
  value_same d (ResultOf ok err) = λ i. ResultOf (payload_same d ok i) (payload_same d err i)
  value_same d (Own r) = refl
  value_same d (Borrow r) = refl

  values_same : (d : ℕ) (ts : ValueTrees) → values_by settled d ts ≡ ts
  values_same d none = refl
  values_same d (more t ts) = λ i. more (value_same d t i) (values_same d ts i)

  cases_same : (d : ℕ) (cs : Cases) → cases_by settled d cs ≡ cs
  cases_same d no_case = refl
  cases_same d (labelled label payload cs) = λ i. labelled label (payload_same d payload i) (cases_same d cs i)

  payload_same : (d : ℕ) (p : Payload) → payload_by settled d p ≡ p
  payload_same d absent = refl
  payload_same d (present t) = ap present (value_same d t)

params_same : (d : ℕ) (ps : List (List ℕ × ValueTree)) → map (λ (p : List ℕ × ValueTree). (p.0, value_by settled d p.1)) ps ≡ ps
params_same d [] = refl
params_same d (p ∷ ps) = λ i. (p.0, value_same d p.1 i) ∷ params_same d ps i

result_same : (d : ℕ) (r : Option ValueTree) → option_map (value_by settled d) r ≡ r
result_same d None = refl
result_same d (Some t) = ap Some (value_same d t)

func_same : (d : ℕ) (f : FuncTree) → func_by settled d f ≡ f
func_same d f = λ i. record { params = params_same d f.params i; result = result_same d f.result i }

mutual
  type_alike : (d : ℕ) (t : TypeShapeTree) → type_by settled d t ≡ type_by settled 0 t
  type_alike d (Value v) = ap Value (value_same d v ∙ sym (value_same 0 v))
  type_alike d (Resource r) = refl
  type_alike d (Func f) = ap Func (func_same d f ∙ sym (func_same 0 f))
  type_alike d (Instance es) = ap Instance (entries_alike (suc d) es ∙ sym (entries_alike 1 es))
  type_alike d (Component is es) = λ i. Component ((entries_alike (suc (suc d)) is ∙ sym (entries_alike 2 is)) i) ((entries_alike (suc (suc d)) es ∙ sym (entries_alike 2 es)) i)

  entity_alike : (d : ℕ) (e : EntityTree) → entity_by settled d e ≡ entity_by settled 0 e
  entity_alike d (IsType t) = ap IsType (type_alike d t)
  entity_alike d (IsFunc f) = ap IsFunc (func_same d f ∙ sym (func_same 0 f))
  entity_alike d (IsInstance es) = ap IsInstance (entries_alike d es)
  entity_alike d (IsComponent is es) = λ i. IsComponent ((entries_alike (suc (suc d)) is ∙ sym (entries_alike 2 is)) i) ((entries_alike (suc (suc d)) es ∙ sym (entries_alike 2 es)) i)
  entity_alike d (IsModule m) = refl
  entity_alike d IsOwnModule = refl

  entries_alike : (d : ℕ) (es : Entries) → entries_by settled d es ≡ entries_by settled 0 es
  entries_alike d no_entry = refl
  entries_alike d (entry name e mark es) = λ i. entry name (entity_alike d e i) true (entries_alike d es i)

-- the names and the entities of entries
abbrev unlisted : Entries → List (List ℕ × EntityTree)
unlisted no_entry = []
unlisted (entry name e mark es) = (name, e) ∷ unlisted es

unlisted_back : (xs : List (List ℕ × EntityTree)) → unlisted (entries_of xs) ≡ xs
unlisted_back [] = refl
unlisted_back (x ∷ xs) = ap (λ rest. x ∷ rest) (unlisted_back xs)

settled_listed : (d : ℕ) (es : Entries) → unlisted (entries_by settled d es) ≡ listed es
settled_listed d no_entry = refl
settled_listed d (entry name e mark es) = λ i. (name, entity_alike d e i) ∷ settled_listed d es i

-- what lies in memory with all naming bits, as a shape lists it
pub listed_so : (d : ℕ) (xs : List (List ℕ × EntityTree)) (es : Entries) → entries_of xs ≡ entries_by settled d es → xs ≡ listed es
listed_so d xs es e = sym (unlisted_back xs) ∙ (ap unlisted e ∙ settled_listed d es)

abbrev imports_in : EntityTree → Entries
imports_in (IsComponent is es) = is
imports_in e = no_entry

abbrev exports_in : EntityTree → Entries
exports_in (IsComponent is es) = es
exports_in e = no_entry

-- a component in memory, as a tree
component_tree : (x : ComponentShape) → entity_tree (shape.Component x) ≡ IsComponent (component_sides x).imports (component_sides x).exports
component_tree x = ap entity_tree (sym (shape.rolls-Component x)) ∙ fold-roll-Entity EntityTree TypeShapeTree Sides Entries entity_step type_step component_step instance_step (layer.«Entity::Component» x)

-- what a component in memory imports and exports
pub component_listed : (x : ComponentShape) (c : Sides) → entity_tree (shape.Component x) ≡ entity_by settled 0 (IsComponent c.imports c.exports) → shape_tree (record { imports = x.imports; exports = x.exports }) ≡ listed_sides c
component_listed x c e =
    let whole = sym (component_tree x) ∙ e in
    let sides = component_is x in
    let imports = listed_so 2 (named_entities x.imports.items) c.imports (ap (λ s. s.imports) (sym sides) ∙ ap imports_in whole) in
    let exports = listed_so 2 (named_entities x.exports.items) c.exports (ap (λ s. s.exports) (sym sides) ∙ ap exports_in whole) in
    λ i. record { imports = imports i; exports = exports i }
