-- Laws of what lies in memory, as trees of heads: each kind by its rows.
use Rattle.std.specs.Prelude.{◌≡◌, ℕ, List, [], ◌∷◌, map, Option, Some, None, option_map, Box, Vec, refl}
use Rattle.std.specs.Global.{Global}
use Rattle.std.proofs.Common.{sym, ◌∙◌, ap}
use Rattle.comp_entity.specs.declared.entity.ValueShape.{ValueShape, fold-roll-ValueShape}
use Rattle.comp_entity.specs.declared.entity.ValueShape.TheOpen as value_layer
use Rattle.comp_entity.specs.declared.entity.ValueShape.TheVariants as value
use Rattle.comp_entity.specs.declared.entity.FuncShape.{FuncShape}
use Rattle.comp_entity.specs.declared.module.ModuleShape.{ModuleShape}
use Rattle.comp_entity.specs.declared.entity.InstanceShape.{InstanceShape, fold-roll-InstanceShape}
use Rattle.comp_entity.specs.declared.entity.ComponentShape.{ComponentShape, fold-roll-ComponentShape}
use Rattle.comp_entity.specs.declared.entity.TypeShape.{TypeShape, fold-roll-TypeShape}
use Rattle.comp_entity.specs.declared.entity.TypeShape.TheVariants as type
use Rattle.comp_entity.specs.declared.entity.Entity.{Entity, fold-roll-Entity}
use Rattle.comp_entity.specs.declared.entity.Entity.TheOpen as layer
use Rattle.comp_entity.specs.declared.entity.Entity.TheVariants as entity
use Rattle.comp_entity.specs.Entity.{Name, ValueTree, VariantOf, TypeShapeTree, EntityTree, Entries}
use Rattle.comp_entity.specs.Views.{value_tree, func_tree, value_step, values_of, fields_of, cases_of, entries_of, named_entities, Sides, entity_step, type_step, component_step, instance_step, component_sides, instance_entries}
use Rattle.comp_table.specs.declared.head.Head.TheVariants as head
use Rattle.comp_table.specs.Trees.{tree, more, trees_of}
use Rattle.comp_table.specs.Plain.{leaf, around, around_two, plain_module, plain_value, plain_values, plain_cases, plain_result, plain_param, plain_func, plain_type, plain_entity, plain_entries}
use Rattle.comp_table.specs.Rows.{value_plain, boxed_plain, held_plain, field_plain, case_plain, entity_plain, type_plain, entry_plain}

parts_plain : (ts : List ValueShape) → plain_values (values_of (map value_tree ts)) ≡ trees_of (map value_plain ts)
parts_plain [] = refl
parts_plain (t ∷ ts) = ap (more (value_plain t)) (parts_plain ts)

fields_plain : (fs : List (List ℕ × ValueShape)) → plain_cases (fields_of (map (λ x. (x.0, value_tree x.1)) fs)) ≡ trees_of (map field_plain fs)
fields_plain [] = refl
fields_plain (f ∷ fs) = ap (more (field_plain f)) (fields_plain fs)

cases_plain : (cs : List (List ℕ × Option ValueShape)) → plain_cases (cases_of (map (λ x. (x.0, option_map value_tree x.1)) cs)) ≡ trees_of (map case_plain cs)
cases_plain [] = refl
cases_plain (c ∷ cs) = ap (more (case_plain c)) (cases_plain cs)

pub record_is : (p : Option Name) (fs : Vec (List ℕ × ValueShape) Global) → value_plain (value.RecordOf p fs) ≡ tree (head.RecordOf p) (trees_of (map field_plain fs.items))
record_is p fs = ap value_plain (sym (value.rolls-RecordOf p fs)) ∙ ap plain_value (fold-roll-ValueShape ValueTree value_step (value_layer.RecordOf p fs)) ∙ ap (tree (head.RecordOf p)) (fields_plain fs.items)

case_mapped : (f : List ℕ × Option ValueShape → List ℕ × Option ValueTree) → ((l : List ℕ) → f (l, None) ≡ (l, None)) → ((l : List ℕ) (v : ValueShape) → f (l, Some v) ≡ (l, Some (value_tree v))) → (l : List ℕ) (o : Option ValueShape) → f (l, o) ≡ (l, option_map value_tree o)
case_mapped f n s l None = n l
case_mapped f n s l (Some v) = s l v

cases_mapped : (f : List ℕ × Option ValueShape → List ℕ × Option ValueTree) → ((l : List ℕ) → f (l, None) ≡ (l, None)) → ((l : List ℕ) (v : ValueShape) → f (l, Some v) ≡ (l, Some (value_tree v))) → (p : Option Name) (xs : List (List ℕ × Option ValueShape)) (t : ValueTree) → t ≡ VariantOf p (cases_of (map f xs)) → t ≡ VariantOf p (cases_of (map (λ x. (x.0, option_map value_tree x.1)) xs))
cases_mapped f n s p xs t e = e ∙ ap (λ (g : List ℕ × Option ValueShape → List ℕ × Option ValueTree). VariantOf p (cases_of (map g xs))) (λ i x. case_mapped f n s x.0 x.1 i)

variant_tree : (p : Option Name) (fs : Vec (List ℕ × Option ValueShape) Global) → value_tree (value.VariantOf p fs) ≡ VariantOf p (cases_of (map (λ x. (x.0, option_map value_tree x.1)) fs.items))
variant_tree p fs = cases_mapped _ (λ l. refl) (λ l v. refl) p fs.items (value_tree (value.VariantOf p fs)) (ap value_tree (sym (value.rolls-VariantOf p fs)) ∙ fold-roll-ValueShape ValueTree value_step (value_layer.VariantOf p fs))

pub variant_is : (p : Option Name) (fs : Vec (List ℕ × Option ValueShape) Global) → value_plain (value.VariantOf p fs) ≡ tree (head.VariantOf p) (trees_of (map case_plain fs.items))
variant_is p fs = ap plain_value (variant_tree p fs) ∙ ap (tree (head.VariantOf p)) (cases_plain fs.items)

pub tuple_is : (ts : Vec ValueShape Global) → value_plain (value.TupleOf ts) ≡ tree head.TupleOf (trees_of (map value_plain ts.items))
tuple_is ts = ap value_plain (sym (value.rolls-TupleOf ts)) ∙ ap plain_value (fold-roll-ValueShape ValueTree value_step (value_layer.TupleOf ts)) ∙ ap (tree head.TupleOf) (parts_plain ts.items)

pub result_is : (ok err : Option (Box ValueShape Global)) → value_plain (value.ResultOf ok err) ≡ around_two head.ResultOf (boxed_plain ok) (boxed_plain err)
result_is None None = ap value_plain (sym (value.rolls-ResultOf None None)) ∙ ap plain_value (fold-roll-ValueShape ValueTree value_step (value_layer.ResultOf None None))
result_is None (Some e) = ap value_plain (sym (value.rolls-ResultOf None (Some e))) ∙ ap plain_value (fold-roll-ValueShape ValueTree value_step (value_layer.ResultOf None (Some e)))
result_is (Some t) None = ap value_plain (sym (value.rolls-ResultOf (Some t) None)) ∙ ap plain_value (fold-roll-ValueShape ValueTree value_step (value_layer.ResultOf (Some t) None))
result_is (Some t) (Some e) = ap value_plain (sym (value.rolls-ResultOf (Some t) (Some e))) ∙ ap plain_value (fold-roll-ValueShape ValueTree value_step (value_layer.ResultOf (Some t) (Some e)))

result_plain : (r : Option ValueShape) → plain_result (option_map value_tree r) ≡ held_plain r
result_plain None = refl
result_plain (Some t) = refl

params_plain : (ps : List (List ℕ × ValueShape)) → map plain_param (map (λ p. (p.0, value_tree p.1)) ps) ≡ map field_plain ps
params_plain [] = refl
params_plain (p ∷ ps) = ap (λ xs. field_plain p ∷ xs) (params_plain ps)

pub func_is : (f : FuncShape) → plain_func (func_tree f) ≡ tree head.FuncType (trees_of (held_plain f.result ∷ map field_plain f.params.items))
func_is f = λ i. tree head.FuncType (more (result_plain f.result i) (trees_of (params_plain f.params.items i)))

-- types and entities
entries_plain : (es : List (List ℕ × Entity)) → plain_entries (entries_of (named_entities es)) ≡ trees_of (map entry_plain es)
entries_plain [] = refl
entries_plain (e ∷ es) = ap (more (entry_plain e)) (entries_plain es)

pub instance_rows : (t : InstanceShape) → plain_entries (instance_entries t) ≡ trees_of (map entry_plain t.exports.items)
instance_rows t = ap plain_entries (fold-roll-InstanceShape EntityTree TypeShapeTree Sides Entries entity_step type_step component_step instance_step (record { exports = t.exports })) ∙ entries_plain t.exports.items

pub component_is : (t : ComponentShape) → component_sides t ≡ record { imports = entries_of (named_entities t.imports.items); exports = entries_of (named_entities t.exports.items) }
component_is t = fold-roll-ComponentShape EntityTree TypeShapeTree Sides Entries entity_step type_step component_step instance_step (record { imports = t.imports; exports = t.exports })

pub import_rows : (t : ComponentShape) → plain_entries (component_sides t).imports ≡ trees_of (map entry_plain t.imports.items)
import_rows t = ap (λ (s : Sides). plain_entries s.imports) (component_is t) ∙ entries_plain t.imports.items

pub export_rows : (t : ComponentShape) → plain_entries (component_sides t).exports ≡ trees_of (map entry_plain t.exports.items)
export_rows t = ap (λ (s : Sides). plain_entries s.exports) (component_is t) ∙ entries_plain t.exports.items

pub entity_instance : (t : InstanceShape) → entity_plain (entity.Instance t) ≡ tree head.Instance (plain_entries (instance_entries t))
entity_instance t = ap entity_plain (sym (entity.rolls-Instance t)) ∙ ap plain_entity (fold-roll-Entity EntityTree TypeShapeTree Sides Entries entity_step type_step component_step instance_step (layer.«Entity::Instance» t))

pub entity_component : (t : ComponentShape) → entity_plain (entity.Component t) ≡ around_two head.Component (tree head.Entries (plain_entries (component_sides t).imports)) (tree head.Entries (plain_entries (component_sides t).exports))
entity_component t = ap entity_plain (sym (entity.rolls-Component t)) ∙ ap plain_entity (fold-roll-Entity EntityTree TypeShapeTree Sides Entries entity_step type_step component_step instance_step (layer.«Entity::Component» t))

pub type_instance : (t : InstanceShape) → type_plain (type.Instance t) ≡ tree head.InstanceType (plain_entries (instance_entries t))
type_instance t = ap type_plain (sym (type.rolls-Instance t)) ∙ ap plain_type (fold-roll-TypeShape EntityTree TypeShapeTree Sides Entries entity_step type_step component_step instance_step (layer.«TypeShape::Instance» t))

pub type_component : (t : ComponentShape) → type_plain (type.Component t) ≡ around_two head.ComponentType (tree head.Entries (plain_entries (component_sides t).imports)) (tree head.Entries (plain_entries (component_sides t).exports))
type_component t = ap type_plain (sym (type.rolls-Component t)) ∙ ap plain_type (fold-roll-TypeShape EntityTree TypeShapeTree Sides Entries entity_step type_step component_step instance_step (layer.«TypeShape::Component» t))

pub type_value : (v : ValueShape) → type_plain (type.Value v) ≡ value_plain v
type_value v = ap type_plain (sym (type.rolls-Value v)) ∙ ap plain_type (fold-roll-TypeShape EntityTree TypeShapeTree Sides Entries entity_step type_step component_step instance_step (layer.Value v))

pub type_func : (f : FuncShape) → type_plain (type.Func f) ≡ plain_func (func_tree f)
type_func f = ap type_plain (sym (type.rolls-Func f)) ∙ ap plain_type (fold-roll-TypeShape EntityTree TypeShapeTree Sides Entries entity_step type_step component_step instance_step (layer.«TypeShape::Func» f))

pub type_resource : (r : Name) → type_plain (type.Resource r) ≡ leaf (head.Resource r)
type_resource r = ap type_plain (sym (type.rolls-Resource r)) ∙ ap plain_type (fold-roll-TypeShape EntityTree TypeShapeTree Sides Entries entity_step type_step component_step instance_step (layer.Resource r))

pub entity_func : (f : FuncShape) → entity_plain (entity.Func f) ≡ around head.Func (plain_func (func_tree f))
entity_func f = ap entity_plain (sym (entity.rolls-Func f)) ∙ ap plain_entity (fold-roll-Entity EntityTree TypeShapeTree Sides Entries entity_step type_step component_step instance_step (layer.«Entity::Func» f))

pub entity_module : (m : ModuleShape) → entity_plain (entity.Module m) ≡ plain_module m
entity_module m = ap entity_plain (sym (entity.rolls-Module m)) ∙ ap plain_entity (fold-roll-Entity EntityTree TypeShapeTree Sides Entries entity_step type_step component_step instance_step (layer.Module m))

pub entity_type : (t : TypeShape) → entity_plain (entity.Ty t) ≡ type_plain t
entity_type t = ap entity_plain (sym (entity.rolls-Ty t)) ∙ ap plain_entity (fold-roll-Entity EntityTree TypeShapeTree Sides Entries entity_step type_step component_step instance_step (layer.Ty t))
