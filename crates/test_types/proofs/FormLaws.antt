-- Labels that differ, and the forms of value types and entities from those of their parts.
use Rattle.std.proofs.Common.{true, take, ◌-◌, get_or, drop, subst, ◌≤◌, arith, ◌≡◌, ℕ, ◌<◌, false, length, Vec, List, [], ◌∷◌, map, Option, Some, None, refl, sym, ap, ◌∙◌}
use Rattle.std.specs.Global.{Global}
use Rattle.std.specs.Prelude.{All, Bool, IfSome, is_some, option_map}
use Rattle.comp_entity.specs.Names.{Mention}
use Rattle.std.specs.List.{AllByRecursion, IsDistinct}
use Rattle.std.specs.Str.{bytes_eq}
use Rattle.std.proofs.lemmas.List.{length-map, take_all}
use Rattle.std.proofs.lemmas.List.Elements.{All-from_recursion, recursion_from_All}
use Rattle.comp_format.specs.Forms.{AreLabels}
use Rattle.comp_entity.specs.declared.module.ModuleShape.{ModuleShape}
use Rattle.comp_entity.specs.declared.entity.ValueShape.{ValueShape, fold-roll-ValueShape}
use Rattle.comp_entity.specs.declared.entity.ValueShape.TheOpen as layer
use Rattle.comp_entity.specs.declared.entity.ValueShape.TheVariants as made
use Rattle.comp_entity.specs.declared.entity.FuncShape.{FuncShape}
use Rattle.comp_entity.specs.declared.entity.InstanceShape.{InstanceShape, fold-roll-InstanceShape}
use Rattle.comp_entity.specs.declared.entity.ComponentShape.{ComponentShape, fold-roll-ComponentShape}
use Rattle.comp_entity.specs.declared.entity.TypeShape.{TypeShape, fold-roll-TypeShape}
use Rattle.comp_entity.specs.declared.entity.TypeShape.TheVariants as shape
use Rattle.comp_entity.specs.declared.entity.Entity.{Entity, fold-roll-Entity}
use Rattle.comp_entity.specs.declared.entity.Entity.TheOpen as entity_layer
use Rattle.comp_entity.specs.declared.entity.Entity.TheVariants as entity
use Rattle.comp_entity.specs.Entity.{Name, ValueTree, TupleOf, RecordOf, VariantOf, TypeShapeTree, Resource, Value, Func, Instance, Component, EntityTree, IsType, IsFunc, IsInstance, IsComponent, IsModule, Entries}
use Rattle.comp_entity.specs.Views.{value_tree, value_step, values_of, fields_of, cases_of, func_tree, entries_of, named_entities, Sides, entity_step, type_step, component_step, instance_step, entity_tree, component_sides, instance_entries}
use Rattle.comp_entity.specs.Views.{type_tree as shape_tree}
use Rattle.compose_writing.specs.Conditions.{labels_of, HasPart, AreFields, KeepsValue, KeepsValues, KeepsCases, KeepsPayload, KeepsFunc, KeepsModule, KeepsType, KeepsForm, KeepsEntries, if_scope, is_known, are_known, sides_known}
use Rattle.test_types.specs.Form.{held_tree, field_tree, case_tree}

-- ---- labels

labelled_cons : (name : List ℕ) (others : List (List ℕ)) → 0 < length name → AllByRecursion (λ other. bytes_eq name other ≡ false) others → AreLabels others → AreLabels (name ∷ others)
unfolding IsDistinct
labelled_cons name others lt new rest = record { named = All-from_recursion (λ label. 0 < length label) (name ∷ others) (lt, recursion_from_All (λ label. 0 < length label) others rest.named); differ = (new, rest.differ) }

pub no_labels : (names : List (List ℕ)) → length names < 1 → AreLabels names
unfolding IsDistinct
no_labels [] lt = record { named = All-from_recursion (λ label. 0 < length label) [] tt; differ = tt }
no_labels (name ∷ names) lt = absurd (omega (arith, lt))

rest_is : {X : Type 0} (x : X) (xs : List X) → take (length (x ∷ xs) - 1) xs ≡ xs
rest_is x xs = take_all (length (x ∷ xs) - 1) xs (omega arith)

pub labels_cons : (names : List (List ℕ)) (name : List ℕ) → 1 ≤ length names → name ≡ get_or names 0 name → 0 < length name → All (λ other. bytes_eq name other ≡ false) (take (length names - 1) (drop 1 names)) → AreLabels (take (length names - 1) (drop 1 names)) → AreLabels names
labels_cons [] name le is lt new rest = absurd (omega (arith, le))
labels_cons (n ∷ ns) name le is lt new rest = subst (λ (m : List ℕ). AreLabels (m ∷ ns)) is
    (labelled_cons name ns lt (recursion_from_All (λ other. bytes_eq name other ≡ false) ns (subst (All (λ (other : List ℕ). bytes_eq name other ≡ false)) (rest_is n ns) new)) (subst AreLabels (rest_is n ns) rest))

all_mapped : {X : Type 0} (name : List ℕ) (es : List (List ℕ × X)) → AllByRecursion (λ (e : List ℕ × X). bytes_eq name e.0 ≡ false) es → AllByRecursion (λ other. bytes_eq name other ≡ false) (map (λ (e : List ℕ × X). e.0) es)
all_mapped name [] k = tt
all_mapped name (e ∷ es) k = (k.0, all_mapped name es k.1)

pub no_entries : {X : Type 0} (es : List (List ℕ × X)) → length es < 1 → AreLabels (map (λ (e : List ℕ × X). e.0) es)
no_entries [] lt = no_labels [] lt
no_entries (e ∷ es) lt = absurd (omega (arith, lt))

pub entries_cons : {X : Type 0} (es : List (List ℕ × X)) (e : List ℕ × X) → 1 ≤ length es → e ≡ get_or es 0 e → 0 < length e.0 → All (λ (other : List ℕ × X). bytes_eq e.0 other.0 ≡ false) (take (length es - 1) (drop 1 es)) → AreLabels (map (λ (e : List ℕ × X). e.0) (take (length es - 1) (drop 1 es))) → AreLabels (map (λ (e : List ℕ × X). e.0) es)
entries_cons [] e le is lt new rest = absurd (omega (arith, le))
entries_cons {X} (n ∷ ns) e le is lt new rest = subst (λ (m : List ℕ × X). AreLabels (m.0 ∷ map (λ (e : List ℕ × X). e.0) ns)) is
    (labelled_cons e.0 (map (λ (e : List ℕ × X). e.0) ns) lt
    (all_mapped e.0 ns (recursion_from_All (λ (other : List ℕ × X). bytes_eq e.0 other.0 ≡ false) ns (subst (All (λ (other : List ℕ × X). bytes_eq e.0 other.0 ≡ false)) (rest_is n ns) new)))
    (subst (λ (xs : List (List ℕ × X)). AreLabels (map (λ (e : List ℕ × X). e.0) xs)) (rest_is n ns) rest))

-- ---- trees

tree_record : (p : Option Name) (fs : Vec (List ℕ × ValueShape) Global) → value_tree (made.RecordOf p fs) ≡ RecordOf p (fields_of (map field_tree fs.items))
tree_record p fs = ap value_tree (sym (made.rolls-RecordOf p fs)) ∙ fold-roll-ValueShape ValueTree value_step (layer.RecordOf p fs)

case_mapped : (f : List ℕ × Option ValueShape → List ℕ × Option ValueTree) → ((l : List ℕ) → f (l, None) ≡ (l, None)) → ((l : List ℕ) (v : ValueShape) → f (l, Some v) ≡ (l, Some (value_tree v))) → (l : List ℕ) (o : Option ValueShape) → f (l, o) ≡ (l, option_map value_tree o)
case_mapped f n s l None = n l
case_mapped f n s l (Some v) = s l v

cases_mapped : (f : List ℕ × Option ValueShape → List ℕ × Option ValueTree) → ((l : List ℕ) → f (l, None) ≡ (l, None)) → ((l : List ℕ) (v : ValueShape) → f (l, Some v) ≡ (l, Some (value_tree v))) → (p : Option Name) (xs : List (List ℕ × Option ValueShape)) (t : ValueTree) → t ≡ VariantOf p (cases_of (map f xs)) → t ≡ VariantOf p (cases_of (map case_tree xs))
cases_mapped f n s p xs t e = e ∙ ap (λ (g : List ℕ × Option ValueShape → List ℕ × Option ValueTree). VariantOf p (cases_of (map g xs))) (λ i x. case_mapped f n s x.0 x.1 i)

tree_variant : (p : Option Name) (fs : Vec (List ℕ × Option ValueShape) Global) → value_tree (made.VariantOf p fs) ≡ VariantOf p (cases_of (map case_tree fs.items))
tree_variant p fs = cases_mapped _ (λ l. refl) (λ l v. refl) p fs.items (value_tree (made.VariantOf p fs)) (ap value_tree (sym (made.rolls-VariantOf p fs)) ∙ fold-roll-ValueShape ValueTree value_step (layer.VariantOf p fs))

tree_tuple : (ts : Vec ValueShape Global) → value_tree (made.TupleOf ts) ≡ TupleOf (values_of (map value_tree ts.items))
tree_tuple ts = ap value_tree (sym (made.rolls-TupleOf ts)) ∙ fold-roll-ValueShape ValueTree value_step (layer.TupleOf ts)

-- ---- value types

parts_kept : (ts : List ValueShape) → AllByRecursion (λ t. KeepsValue (value_tree t)) ts → KeepsValues (values_of (map value_tree ts))
parts_kept [] k = tt
parts_kept (t ∷ ts) k = (k.0, parts_kept ts k.1)

has_part : (ts : List ValueShape) → 0 < length ts → HasPart (values_of (map value_tree ts))
has_part [] lt = omega (arith, lt)
has_part (t ∷ ts) lt = tt

fields_kept : (fs : List (List ℕ × ValueShape)) → AllByRecursion (λ f. KeepsValue (value_tree f.1)) fs → KeepsCases (fields_of (map field_tree fs))
fields_kept [] k = tt
fields_kept (f ∷ fs) k = (k.0, fields_kept fs k.1)

are_fields : (fs : List (List ℕ × ValueShape)) → AreFields (fields_of (map field_tree fs))
are_fields [] = tt
are_fields (f ∷ fs) = (tt, are_fields fs)

field_labels : (fs : List (List ℕ × ValueShape)) → labels_of (fields_of (map field_tree fs)) ≡ map (λ f. f.0) fs
field_labels [] = refl
field_labels (f ∷ fs) = ap (λ ls. f.0 ∷ ls) (field_labels fs)

cases_kept : (cs : List (List ℕ × Option ValueShape)) → AllByRecursion (λ c. KeepsPayload (held_tree c.1)) cs → KeepsCases (cases_of (map case_tree cs))
cases_kept [] k = tt
cases_kept (c ∷ cs) k = (k.0, cases_kept cs k.1)

case_labels : (cs : List (List ℕ × Option ValueShape)) → labels_of (cases_of (map case_tree cs)) ≡ map (λ c. c.0) cs
case_labels [] = refl
case_labels (c ∷ cs) = ap (λ ls. c.0 ∷ ls) (case_labels cs)

labelled_by : (ls names : List (List ℕ)) → ls ≡ names → 0 < length names → AreLabels names → (0 < length ls) × AreLabels ls
labelled_by ls names is lt are = rw is (lt, are)

pub tuple_kept : (ty : ValueShape) (ts : Vec ValueShape Global) → ty ≡ made.TupleOf ts → 0 < length ts.items → All (λ t. KeepsValue (value_tree t)) ts.items → KeepsValue (value_tree ty)
tuple_kept ty ts is lt k = rw (is, tree_tuple ts) (has_part ts.items lt, parts_kept ts.items (recursion_from_All (λ t. KeepsValue (value_tree t)) ts.items k))

pub record_kept : (ty : ValueShape) (p : Option Name) (fs : Vec (List ℕ × ValueShape) Global) → ty ≡ made.RecordOf p fs → 0 < length fs.items → AreLabels (map (λ f. f.0) fs.items) → All (λ f. KeepsValue (value_tree f.1)) fs.items → KeepsValue (value_tree ty)
record_kept ty p fs is lt labels k = rw (is, tree_record p fs) (
  labelled_by (labels_of (fields_of (map field_tree fs.items))) (map (λ f. f.0) fs.items) (field_labels fs.items) (rw (length-map fs.items (λ (f : List ℕ × ValueShape). f.0)) lt) labels,
  are_fields fs.items,
  fields_kept fs.items (recursion_from_All (λ f. KeepsValue (value_tree f.1)) fs.items k),
)

pub variant_kept : (ty : ValueShape) (p : Option Name) (cs : Vec (List ℕ × Option ValueShape) Global) → ty ≡ made.VariantOf p cs → 0 < length cs.items → AreLabels (map (λ c. c.0) cs.items) → All (λ c. KeepsPayload (held_tree c.1)) cs.items → KeepsValue (value_tree ty)
variant_kept ty p cs is lt labels k = rw (is, tree_variant p cs) (
  labelled_by (labels_of (cases_of (map case_tree cs.items))) (map (λ c. c.0) cs.items) (case_labels cs.items) (rw (length-map cs.items (λ (c : List ℕ × Option ValueShape). c.0)) lt) labels,
  cases_kept cs.items (recursion_from_All (λ c. KeepsPayload (held_tree c.1)) cs.items k),
)

pub case_none : (c : List ℕ × Option ValueShape) → c.1 ≡ None → KeepsPayload (held_tree c.1)
case_none c is = rw is tt

pub case_some : (c : List ℕ × Option ValueShape) (v : ValueShape) → c.1 ≡ Some v → KeepsValue (value_tree v) → KeepsPayload (held_tree c.1)
case_some c v is k = rw is k

-- ---- functions

param_names : (ps : List (List ℕ × ValueShape)) → map (λ (p : List ℕ × ValueTree). p.0) (map field_tree ps) ≡ map (λ (p : List ℕ × ValueShape). p.0) ps
param_names [] = refl
param_names (p ∷ ps) = ap (λ ns. p.0 ∷ ns) (param_names ps)

params_kept : (ps : List (List ℕ × ValueShape)) → AllByRecursion (λ p. KeepsValue (value_tree p.1)) ps → AllByRecursion (λ (p : List ℕ × ValueTree). KeepsValue p.1) (map field_tree ps)
params_kept [] k = tt
params_kept (p ∷ ps) k = (k.0, params_kept ps k.1)

given_kept : (o : Option ValueShape) → KeepsPayload (held_tree o) → IfSome (option_map value_tree o) KeepsValue
given_kept None k = tt
given_kept (Some v) k = k

pub func_parts : (f : FuncShape) → AreLabels (map (λ (p : List ℕ × ValueShape). p.0) f.params.items) → All (λ (p : List ℕ × ValueShape). KeepsValue (value_tree p.1)) f.params.items → KeepsPayload (held_tree f.result) → KeepsFunc (func_tree f)
func_parts f labels ps held = (
  subst AreLabels (sym (param_names f.params.items)) labels,
  All-from_recursion (λ (p : List ℕ × ValueTree). KeepsValue p.1) (map field_tree f.params.items) (params_kept f.params.items (recursion_from_All (λ (p : List ℕ × ValueShape). KeepsValue (value_tree p.1)) f.params.items ps)),
  given_kept f.result held,
)

-- ---- entities

entries_kept : (es : List (List ℕ × Entity)) → AllByRecursion (λ e. (0 < length e.0) × KeepsForm (entity_tree e.1)) es → KeepsEntries (entries_of (named_entities es))
entries_kept [] k = tt
entries_kept (e ∷ es) k = (k.0.0, k.0.1, entries_kept es k.1)

pub named_kept : (es : List (List ℕ × Entity)) → All (λ e. (0 < length e.0) × KeepsForm (entity_tree e.1)) es → KeepsEntries (entries_of (named_entities es))
named_kept es k = entries_kept es (recursion_from_All (λ e. (0 < length e.0) × KeepsForm (entity_tree e.1)) es k)

component_is : (c : ComponentShape) → component_sides c ≡ record { imports = entries_of (named_entities c.imports.items); exports = entries_of (named_entities c.exports.items) }
component_is c = fold-roll-ComponentShape EntityTree TypeShapeTree Sides Entries entity_step type_step component_step instance_step (record { imports = c.imports; exports = c.exports })

pub sides_kept : (c : ComponentShape) → All (λ e. (0 < length e.0) × KeepsForm (entity_tree e.1)) c.imports.items → All (λ e. (0 < length e.0) × KeepsForm (entity_tree e.1)) c.exports.items → KeepsEntries (component_sides c).imports × KeepsEntries (component_sides c).exports
sides_kept c is es = rw (component_is c) (named_kept c.imports.items is, named_kept c.exports.items es)

instance_is : (t : InstanceShape) → instance_entries t ≡ entries_of (named_entities t.exports.items)
instance_is t = fold-roll-InstanceShape EntityTree TypeShapeTree Sides Entries entity_step type_step component_step instance_step (record { exports = t.exports })

entity_instance : (t : InstanceShape) → entity_tree (entity.Instance t) ≡ IsInstance (entries_of (named_entities t.exports.items))
entity_instance t = ap entity_tree (sym (entity.rolls-Instance t)) ∙ fold-roll-Entity EntityTree TypeShapeTree Sides Entries entity_step type_step component_step instance_step (entity_layer.«Entity::Instance» t) ∙ ap IsInstance (instance_is t)

shape_instance : (t : InstanceShape) → shape_tree (shape.Instance t) ≡ Instance (entries_of (named_entities t.exports.items))
shape_instance t = ap shape_tree (sym (shape.rolls-Instance t)) ∙ fold-roll-TypeShape EntityTree TypeShapeTree Sides Entries entity_step type_step component_step instance_step (entity_layer.«TypeShape::Instance» t) ∙ ap Instance (instance_is t)

pub instance_kept : (e : Entity) (t : InstanceShape) → e ≡ entity.Instance t → All (λ e. (0 < length e.0) × KeepsForm (entity_tree e.1)) t.exports.items → KeepsForm (entity_tree e)
instance_kept e t is k = rw (is, entity_instance t) (named_kept t.exports.items k)

pub instance_type_kept : (s : TypeShape) (t : InstanceShape) → s ≡ shape.Instance t → All (λ e. (0 < length e.0) × KeepsForm (entity_tree e.1)) t.exports.items → KeepsType (shape_tree s)
instance_type_kept s t is k = rw (is, shape_instance t) (named_kept t.exports.items k)

entity_func : (f : FuncShape) → entity_tree (entity.Func f) ≡ IsFunc (func_tree f)
entity_func f = ap entity_tree (sym (entity.rolls-Func f)) ∙ fold-roll-Entity EntityTree TypeShapeTree Sides Entries entity_step type_step component_step instance_step (entity_layer.«Entity::Func» f)

entity_component : (c : ComponentShape) → entity_tree (entity.Component c) ≡ IsComponent (component_sides c).imports (component_sides c).exports
entity_component c = ap entity_tree (sym (entity.rolls-Component c)) ∙ fold-roll-Entity EntityTree TypeShapeTree Sides Entries entity_step type_step component_step instance_step (entity_layer.«Entity::Component» c)

entity_module : (m : ModuleShape) → entity_tree (entity.Module m) ≡ IsModule m
entity_module m = ap entity_tree (sym (entity.rolls-Module m)) ∙ fold-roll-Entity EntityTree TypeShapeTree Sides Entries entity_step type_step component_step instance_step (entity_layer.Module m)

entity_type : (t : TypeShape) → entity_tree (entity.Ty t) ≡ IsType (shape_tree t)
entity_type t = ap entity_tree (sym (entity.rolls-Ty t)) ∙ fold-roll-Entity EntityTree TypeShapeTree Sides Entries entity_step type_step component_step instance_step (entity_layer.Ty t)

shape_resource : (r : Name) → shape_tree (shape.Resource r) ≡ Resource r
shape_resource r = ap shape_tree (sym (shape.rolls-Resource r)) ∙ fold-roll-TypeShape EntityTree TypeShapeTree Sides Entries entity_step type_step component_step instance_step (entity_layer.Resource r)

shape_value : (v : ValueShape) → shape_tree (shape.Value v) ≡ Value (value_tree v)
shape_value v = ap shape_tree (sym (shape.rolls-Value v)) ∙ fold-roll-TypeShape EntityTree TypeShapeTree Sides Entries entity_step type_step component_step instance_step (entity_layer.Value v)

shape_func : (f : FuncShape) → shape_tree (shape.Func f) ≡ Func (func_tree f)
shape_func f = ap shape_tree (sym (shape.rolls-Func f)) ∙ fold-roll-TypeShape EntityTree TypeShapeTree Sides Entries entity_step type_step component_step instance_step (entity_layer.«TypeShape::Func» f)

shape_component : (c : ComponentShape) → shape_tree (shape.Component c) ≡ Component (component_sides c).imports (component_sides c).exports
shape_component c = ap shape_tree (sym (shape.rolls-Component c)) ∙ fold-roll-TypeShape EntityTree TypeShapeTree Sides Entries entity_step type_step component_step instance_step (entity_layer.«TypeShape::Component» c)

pub func_kept : (e : Entity) (f : FuncShape) → e ≡ entity.Func f → KeepsFunc (func_tree f) → KeepsForm (entity_tree e)
func_kept e f is k = rw (is, entity_func f) k

pub component_kept : (e : Entity) (c : ComponentShape) → e ≡ entity.Component c → KeepsEntries (component_sides c).imports × KeepsEntries (component_sides c).exports → KeepsForm (entity_tree e)
component_kept e c is k = rw (is, entity_component c) k

pub module_kept : (e : Entity) (m : ModuleShape) → e ≡ entity.Module m → KeepsModule m → KeepsForm (entity_tree e)
module_kept e m is k = rw (is, entity_module m) k

pub type_kept : (e : Entity) (t : TypeShape) → e ≡ entity.Ty t → KeepsType (shape_tree t) → KeepsForm (entity_tree e)
type_kept e t is k = rw (is, entity_type t) k

pub resource_type_kept : (s : TypeShape) (r : Name) → s ≡ shape.Resource r → KeepsType (shape_tree s)
resource_type_kept s r is = rw (is, shape_resource r) tt

pub value_type_kept : (s : TypeShape) (v : ValueShape) → s ≡ shape.Value v → KeepsValue (value_tree v) → KeepsType (shape_tree s)
value_type_kept s v is k = rw (is, shape_value v) k

pub func_type_kept : (s : TypeShape) (f : FuncShape) → s ≡ shape.Func f → KeepsFunc (func_tree f) → KeepsType (shape_tree s)
func_type_kept s f is k = rw (is, shape_func f) k

pub component_type_kept : (s : TypeShape) (c : ComponentShape) → s ≡ shape.Component c → KeepsEntries (component_sides c).imports × KeepsEntries (component_sides c).exports → KeepsType (shape_tree s)
component_type_kept s c is k = rw (is, shape_component c) k

-- ---- what is known

scope_known : (known : Mention → Bool) (within : Option (Mention → Bool)) → is_some (if_scope known within) ≡ true → is_some within ≡ true
scope_known known None is = is
scope_known known (Some next) is = refl

pub sides_are_known : (known : Mention → Bool) (e : Entity) (c : ComponentShape) → e ≡ entity.Component c → is_known known (entity_tree e) ≡ true → sides_known known (entries_of (named_entities c.imports.items)) (entries_of (named_entities c.exports.items)) ≡ true
sides_are_known known e c is h = scope_known known _ (rw (is, entity_component c, component_is c) at h)

pub exports_are_known : (known : Mention → Bool) (e : Entity) (t : InstanceShape) → e ≡ entity.Instance t → is_known known (entity_tree e) ≡ true → are_known known (entries_of (named_entities t.exports.items)) ≡ true
exports_are_known known e t is h = rw (is, entity_instance t) at h
