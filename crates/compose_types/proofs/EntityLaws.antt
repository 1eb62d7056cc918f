-- Entities in code as trees, and as they are written.
use Rattle.std.proofs.Common.{◌≡◌, ℕ, suc, ◌+◌, ◌<◌, ◌≤◌, length, drop, drop-cons, get_or, arith, List, [], ◌∷◌, Option, Some, refl, sym, ap, ◌∙◌}
use Rattle.std.specs.Prelude.{option_and_then}
use Rattle.std.proofs.lemmas.List.{drop_all}
use Rattle.comp_format.specs.declared.types.TypeRef.{TypeRef}
use Rattle.comp_format.specs.declared.types.TypeRef.TheVariants as description
use Rattle.comp_format.specs.declared.types.InstanceType.{InstanceType}
use Rattle.comp_format.specs.declared.types.ComponentType.{ComponentType}
use Rattle.comp_format.specs.declared.types.DefType.{fold-roll-DefType}
use Rattle.comp_format.specs.declared.types.DefType.TheVariants as def
use Rattle.comp_format.specs.declared.types.Decl.TheOpen as def_layer
use Rattle.comp_format.specs.CoreTypes as core
use Rattle.comp_format.specs.Definitions as tree
use Rattle.comp_format.specs.Definitions.{DeclTree, TypeTree, Decls}
use Rattle.comp_format.specs.Views.{type_tree, decl_step, instance_type_tree, component_type_tree}
use Rattle.comp_format.specs.Views.{type_step as def_step, component_step as def_component, instance_step as def_instance}
use Rattle.comp_entity.specs.declared.module.ModuleShape.{ModuleShape}
use Rattle.comp_entity.specs.declared.entity.FuncShape.{FuncShape}
use Rattle.comp_entity.specs.declared.entity.ValueShape.{ValueShape}
use Rattle.comp_entity.specs.declared.entity.InstanceShape.{InstanceShape}
use Rattle.comp_entity.specs.declared.entity.ComponentShape.{ComponentShape, fold-roll-ComponentShape}
use Rattle.comp_entity.specs.declared.entity.TypeShape.{TypeShape, fold-roll-TypeShape}
use Rattle.comp_entity.specs.declared.entity.TypeShape.TheVariants as shape
use Rattle.comp_entity.specs.declared.entity.Entity.{Entity, fold-roll-Entity}
use Rattle.comp_entity.specs.declared.entity.Entity.TheOpen as layer
use Rattle.comp_entity.specs.declared.entity.Entity.TheVariants as entity
use Rattle.comp_entity.specs.Entity.{Name, TypeShapeTree, Value, Resource, Func, Instance, Component, EntityTree, IsType, IsFunc, IsInstance, IsComponent, IsModule, IsOwnModule, Entries}
use Rattle.comp_entity.specs.Fits.{place_of}
use Rattle.comp_entity.specs.Names.{OfResource, Mention}
use Rattle.comp_entity.specs.Places.{names_itself, leaves_in}
use Rattle.comp_entity.specs.Views.{value_tree, func_tree, entries_of, named_entities, Sides, entity_step, type_step, component_step, instance_step, entity_tree, component_sides}
use Rattle.comp_entity.specs.Views.{type_tree as shape_tree}
use Rattle.compose_writing.specs.Conditions.{KeepsForm, KeepsType, KeepsEntries, KeepsValue, KeepsFunc, KeepsModule}
use Rattle.compose_writing.specs.Keys.{Index}
use Rattle.compose_writing.specs.Scopes.{WrittenScope, wrote_as, opened, add_type, add_core_type, on_top, change_top, with_known, then_type, closed, knows}
use Rattle.compose_writing.specs.Scopes.{declared as declare}
use Rattle.compose_writing.specs.WriteValues.{write_func}
use Rattle.compose_writing.specs.WriteModules.{write_module}
use Rattle.compose_writing.specs.WriteEntities.{counted, write_import, write_entity, write_type, write_entries, write_component, write_named, write_resource, with_named, noted, note_here, note_all}
use Rattle.compose_writing.specs.WriteEntities.{leaves_known}
use Rattle.compose_types.specs.Scopes.{Declares, item_of}
use Rattle.compose_types.specs.declared.body.Side.{Side}
use Rattle.compose_types.proofs.NoteLaws.{instance_is, entity_instance}

-- ---- trees

pub entity_func : (f : FuncShape) → entity_tree (entity.Func f) ≡ IsFunc (func_tree f)
entity_func f = ap entity_tree (sym (entity.rolls-Func f)) ∙ fold-roll-Entity EntityTree TypeShapeTree Sides Entries entity_step type_step component_step instance_step (layer.«Entity::Func» f)

pub entity_component : (c : ComponentShape) → entity_tree (entity.Component c) ≡ IsComponent (component_sides c).imports (component_sides c).exports
entity_component c = ap entity_tree (sym (entity.rolls-Component c)) ∙ fold-roll-Entity EntityTree TypeShapeTree Sides Entries entity_step type_step component_step instance_step (layer.«Entity::Component» c)

pub entity_module : (m : ModuleShape) → entity_tree (entity.Module m) ≡ IsModule m
entity_module m = ap entity_tree (sym (entity.rolls-Module m)) ∙ fold-roll-Entity EntityTree TypeShapeTree Sides Entries entity_step type_step component_step instance_step (layer.Module m)

pub entity_type : (t : TypeShape) → entity_tree (entity.Ty t) ≡ IsType (shape_tree t)
entity_type t = ap entity_tree (sym (entity.rolls-Ty t)) ∙ fold-roll-Entity EntityTree TypeShapeTree Sides Entries entity_step type_step component_step instance_step (layer.Ty t)

pub shape_resource : (r : Name) → shape_tree (shape.Resource r) ≡ Resource r
shape_resource r = ap shape_tree (sym (shape.rolls-Resource r)) ∙ fold-roll-TypeShape EntityTree TypeShapeTree Sides Entries entity_step type_step component_step instance_step (layer.Resource r)

pub shape_value : (v : ValueShape) → shape_tree (shape.Value v) ≡ Value (value_tree v)
shape_value v = ap shape_tree (sym (shape.rolls-Value v)) ∙ fold-roll-TypeShape EntityTree TypeShapeTree Sides Entries entity_step type_step component_step instance_step (layer.Value v)

pub shape_func : (f : FuncShape) → shape_tree (shape.Func f) ≡ Func (func_tree f)
shape_func f = ap shape_tree (sym (shape.rolls-Func f)) ∙ fold-roll-TypeShape EntityTree TypeShapeTree Sides Entries entity_step type_step component_step instance_step (layer.«TypeShape::Func» f)

pub shape_instance : (t : InstanceShape) → shape_tree (shape.Instance t) ≡ Instance (entries_of (named_entities t.exports.items))
shape_instance t = ap shape_tree (sym (shape.rolls-Instance t)) ∙ fold-roll-TypeShape EntityTree TypeShapeTree Sides Entries entity_step type_step component_step instance_step (layer.«TypeShape::Instance» t) ∙ ap Instance (instance_is t)

pub shape_component : (c : ComponentShape) → shape_tree (shape.Component c) ≡ Component (component_sides c).imports (component_sides c).exports
shape_component c = ap shape_tree (sym (shape.rolls-Component c)) ∙ fold-roll-TypeShape EntityTree TypeShapeTree Sides Entries entity_step type_step component_step instance_step (layer.«TypeShape::Component» c)

pub component_is : (c : ComponentShape) → component_sides c ≡ record { imports = entries_of (named_entities c.imports.items); exports = entries_of (named_entities c.exports.items) }
component_is c = fold-roll-ComponentShape EntityTree TypeShapeTree Sides Entries entity_step type_step component_step instance_step (record { imports = c.imports; exports = c.exports })

pub tree_instance : (t : InstanceType) → type_tree (def.Instance t) ≡ tree.Instance (instance_type_tree t)
tree_instance t = ap type_tree (sym (def.rolls-Instance t)) ∙ fold-roll-DefType DeclTree TypeTree Decls Decls decl_step def_step def_component def_instance (def_layer.Instance t)

pub tree_component : (t : ComponentType) → type_tree (def.Component t) ≡ tree.Component (component_type_tree t)
tree_component t = ap type_tree (sym (def.rolls-Component t)) ∙ fold-roll-DefType DeclTree TypeTree Decls Decls decl_step def_step def_component def_instance (def_layer.Component t)

-- ---- forms

pub func_form : (e : Entity) (f : FuncShape) → e ≡ entity.Func f → KeepsForm (entity_tree e) → KeepsFunc (func_tree f)
func_form e f is k = rw (is, entity_func f) at k

pub module_form : (e : Entity) (m : ModuleShape) → e ≡ entity.Module m → KeepsForm (entity_tree e) → KeepsModule m
module_form e m is k = rw (is, entity_module m) at k

pub component_form : (e : Entity) (c : ComponentShape) → e ≡ entity.Component c → KeepsForm (entity_tree e) → KeepsEntries (component_sides c).imports × KeepsEntries (component_sides c).exports
component_form e c is k = rw (is, entity_component c) at k

pub type_form : (e : Entity) (t : TypeShape) → e ≡ entity.Ty t → KeepsForm (entity_tree e) → KeepsType (shape_tree t)
type_form e t is k = rw (is, entity_type t) at k

pub value_keeps : (s : TypeShape) (v : ValueShape) → s ≡ shape.Value v → KeepsType (shape_tree s) → KeepsValue (value_tree v)
value_keeps s v is k = rw (is, shape_value v) at k

pub func_keeps : (s : TypeShape) (f : FuncShape) → s ≡ shape.Func f → KeepsType (shape_tree s) → KeepsFunc (func_tree f)
func_keeps s f is k = rw (is, shape_func f) at k

pub sides_keep : (s : TypeShape) (c : ComponentShape) → s ≡ shape.Component c → KeepsType (shape_tree s) → KeepsEntries (component_sides c).imports × KeepsEntries (component_sides c).exports
sides_keep s c is k = rw (is, shape_component c) at k

pub exports_keep : (s : TypeShape) (t : InstanceShape) → s ≡ shape.Instance t → KeepsType (shape_tree s) → KeepsEntries (entries_of (named_entities t.exports.items))
exports_keep s t is k = rw (is, shape_instance t) at k

-- ---- what is written

pub func_ref : (e : Entity) (f : FuncShape) (ms next : List WrittenScope) (i : ℕ) → e ≡ entity.Func f → write_func (func_tree f) ms ≡ Some (next, i) → write_entity (entity_tree e) ms ≡ Some (next, description.Func i)
unfolding write_entity
func_ref e f ms next i is h = rw (is, entity_func f) (ap (wrote_as description.Func) h)

pub instance_ref : (e : Entity) (t : InstanceShape) (ms mid next : List WrittenScope) (ds : Decls) (i : ℕ) → e ≡ entity.Instance t → option_and_then closed (write_entries tree.Export (entries_of (named_entities t.exports.items)) (opened 0 ∷ ms)) ≡ Some (mid, ds)
    → on_top (add_type (tree.Instance ds)) mid ≡ Some (next, i) → write_entity (entity_tree e) ms ≡ Some (next, description.Instance i)
unfolding write_entity
instance_ref e t ms mid next ds i is h k = rw (is, entity_instance t) (ap (λ w. wrote_as description.Instance (then_type (wrote_as tree.Instance w))) h ∙ ap (wrote_as description.Instance) k)

pub component_ref : (e : Entity) (c : ComponentShape) (ms mid next : List WrittenScope) (ds : Decls) (i : ℕ) → e ≡ entity.Component c → write_component (component_sides c).imports (component_sides c).exports ms ≡ Some (mid, ds)
    → on_top (add_type (tree.Component ds)) mid ≡ Some (next, i) → write_entity (entity_tree e) ms ≡ Some (next, description.Component i)
unfolding write_entity
component_ref e c ms mid next ds i is h k = rw (is, entity_component c) (ap (λ w. wrote_as description.Component (then_type (wrote_as tree.Component w))) h ∙ ap (wrote_as description.Component) k)

-- a component by its imports and exports, and its import
pub component_described : (is es : Entries) (ms mid next : List WrittenScope) (ds : Decls) (i : ℕ)
    → write_component is es ms ≡ Some (mid, ds) → on_top (add_type (tree.Component ds)) mid ≡ Some (next, i)
    → write_entity (IsComponent is es) ms ≡ Some (next, description.Component i)
unfolding write_entity
component_described is es ms mid next ds i h k =
    ap (λ w. wrote_as description.Component (then_type (wrote_as tree.Component w))) h
    ∙ ap (wrote_as description.Component) k

pub module_ref : (e : Entity) (m : ModuleShape) (ms next : List WrittenScope) (i : ℕ) → e ≡ entity.Module m → on_top (add_core_type (core.Module (write_module m))) ms ≡ Some (next, i) → write_entity (entity_tree e) ms ≡ Some (next, description.Module i)
unfolding write_entity
module_ref e m ms next i is h = rw (is, entity_module m) (ap (wrote_as description.Module) h)

pub type_of_entity : (e : Entity) (t : TypeShape) (ms next : List WrittenScope) (ty : TypeRef) → e ≡ entity.Ty t → write_type (shape_tree t) ms ≡ Some (next, ty) → write_entity (entity_tree e) ms ≡ Some (next, ty)
unfolding write_entity
type_of_entity e t ms next ty is h = rw (is, entity_type t) h

pub type_resource : (s : TypeShape) (r : Name) (ms next : List WrittenScope) (ty : TypeRef) → s ≡ shape.Resource r → write_resource r (knows ms (OfResource r)) ms ≡ Some (next, ty) → write_type (shape_tree s) ms ≡ Some (next, ty)
unfolding write_entity
type_resource s r ms next ty is h = rw (is, shape_resource r) h

pub type_value : (s : TypeShape) (v : ValueShape) (ms next : List WrittenScope) (i : ℕ) → s ≡ shape.Value v → write_named (place_of (value_tree v)) (value_tree v) ms ≡ Some (next, i) → write_type (shape_tree s) ms ≡ Some (next, description.TyEqual i)
unfolding write_entity
type_value s v ms next i is h = rw (is, shape_value v) (ap (wrote_as description.TyEqual) h)

pub type_func : (s : TypeShape) (f : FuncShape) (ms next : List WrittenScope) (i : ℕ) → s ≡ shape.Func f → write_func (func_tree f) ms ≡ Some (next, i) → write_type (shape_tree s) ms ≡ Some (next, description.TyEqual i)
unfolding write_entity
type_func s f ms next i is h = rw (is, shape_func f) (ap (wrote_as description.TyEqual) h)

pub type_instance : (s : TypeShape) (t : InstanceShape) (ms mid next : List WrittenScope) (ds : Decls) (i : ℕ) → s ≡ shape.Instance t → option_and_then closed (write_entries tree.Export (entries_of (named_entities t.exports.items)) (opened 1 ∷ ms)) ≡ Some (mid, ds)
    → on_top (add_type (tree.Instance ds)) mid ≡ Some (next, i) → write_type (shape_tree s) ms ≡ Some (next, description.TyEqual i)
unfolding write_entity
type_instance s t ms mid next ds i is h k = rw (is, shape_instance t) (ap (λ w. wrote_as description.TyEqual (then_type (wrote_as tree.Instance w))) h ∙ ap (wrote_as description.TyEqual) k)

pub type_component : (s : TypeShape) (c : ComponentShape) (ms mid next : List WrittenScope) (ds : Decls) (i : ℕ) → s ≡ shape.Component c → write_component (component_sides c).imports (component_sides c).exports ms ≡ Some (mid, ds)
    → on_top (add_type (tree.Component ds)) mid ≡ Some (next, i) → write_type (shape_tree s) ms ≡ Some (next, description.TyEqual i)
unfolding write_entity
type_component s c ms mid next ds i is h k = rw (is, shape_component c) (ap (λ w. wrote_as description.TyEqual (then_type (wrote_as tree.Component w))) h ∙ ap (wrote_as description.TyEqual) k)

pub instance_written : (es : Entries) (width : ℕ) (ms inner mid next : List WrittenScope) (ds : Decls) → inner ≡ opened width ∷ ms → write_entries tree.Export es inner ≡ Some mid → closed mid ≡ Some (next, ds) → option_and_then closed (write_entries tree.Export es (opened width ∷ ms)) ≡ Some (next, ds)
instance_written es width ms inner mid next ds o h k = ap (λ m. option_and_then closed (write_entries tree.Export es m)) (sym o) ∙ ap (option_and_then closed) h ∙ k

pub component_written : (is es : Entries) (ms inner mid last next : List WrittenScope) (ds : Decls) → inner ≡ opened 2 ∷ ms → write_entries tree.Import is inner ≡ Some mid → write_entries tree.Export es mid ≡ Some last → closed last ≡ Some (next, ds) → write_component is es ms ≡ Some (next, ds)
component_written is es ms inner mid last next ds o h k l =
    ap (λ m. option_and_then closed (option_and_then (write_entries tree.Export es) (write_entries tree.Import is m))) (sym o)
    ∙ ap (λ w. option_and_then closed (option_and_then (write_entries tree.Export es) w)) h ∙ ap (option_and_then closed) k ∙ l

pub entity_named : (side : Side) (name : List ℕ) (e : EntityTree) (ty : TypeRef) (old mid new : List WrittenScope) (types instances : ℕ) → Declares (item_of side name ty) ty old mid types instances → ((m : WrittenScope) → types ≡ m.types → instances ≡ m.instances → new ≡ noted e m mid) → new ≡ with_named (item_of side) name e ty old
unfolding with_named
entity_named side name e ty old mid new types instances d h = h d.top d.types_are d.instances_are ∙ ap (noted e d.top) d.is ∙ sym (ap (with_named (item_of side) name e ty) d.was)

-- ---- what is noted

pub instance_noted : (e : Entity) (t : InstanceShape) (m : WrittenScope) (ms new : List WrittenScope) (index : ℕ) → e ≡ entity.Instance t → index ≡ m.instances → new ≡ note_all (leaves_known index (leaves_in [] (entries_of (named_entities t.exports.items)))) ms → new ≡ noted (entity_tree e) m ms
instance_noted e t m ms new index is n h = rw (is, entity_instance t) (h ∙ ap (λ i. note_all (leaves_known i (leaves_in [] (entries_of (named_entities t.exports.items)))) ms) n)

pub one_noted : (e : EntityTree) (key : Mention) (m : WrittenScope) (ms : List WrittenScope) (types : ℕ) → key ∷ [] ≡ names_itself e → types ≡ m.types → change_top (with_known key (Index types)) ms ≡ noted e m ms
unfolding note_here
one_noted (IsType t) key m ms types is n = ap (λ i. change_top (with_known key (Index i)) ms) n ∙ ap (λ ks. note_here ks m.types ms) is
one_noted (IsFunc f) key m ms types is n = absurd cc
one_noted (IsInstance es) key m ms types is n = absurd cc
one_noted (IsComponent is es) key m ms types e n = absurd cc
one_noted (IsModule x) key m ms types is n = absurd cc
one_noted IsOwnModule key m ms types is n = absurd cc

-- ---- imports or exports, one after the other

pub entries_end : (item : List ℕ → TypeRef → DeclTree) (xs : List (List ℕ × Entity)) (i : ℕ) (ms : List WrittenScope) (all : Option (List WrittenScope)) → length xs ≤ i → write_entries item (entries_of (named_entities (drop i xs))) ms ≡ all → all ≡ Some ms
unfolding write_entity
entries_end item xs i ms all le h =
    let none : drop i xs ≡ [] = rw drop_all refl in
    sym h ∙ ap (λ ys. write_entries item (entries_of (named_entities ys)) ms) none

pub entries_step : (item : List ℕ → TypeRef → DeclTree) (xs : List (List ℕ × Entity)) (i : ℕ) (x : List ℕ × Entity) (ms mid next : List WrittenScope) (ty : TypeRef) → i < length xs → x ≡ get_or xs i x → write_entity (entity_tree x.1) ms ≡ Some (mid, ty) → next ≡ with_named item x.0 (entity_tree x.1) ty mid
    → write_entries item (entries_of (named_entities (drop (i + 1) xs))) next ≡ write_entries item (entries_of (named_entities (drop i xs))) ms
unfolding write_entity
entries_step item xs i x ms mid next ty lt is h k =
    let more_by_one : suc i ≡ i + 1 = omega arith in
    let cut : drop i xs ≡ x ∷ drop (i + 1) xs = drop-cons xs i x lt ∙ ap (λ z. z ∷ drop (suc i) xs) (sym is) ∙ ap (λ n. x ∷ drop n xs) more_by_one in
    let rest = entries_of (named_entities (drop (i + 1) xs)) in
    ap (write_entries item rest) k ∙ sym (ap (option_and_then (λ y. write_entries item rest (with_named item x.0 (entity_tree x.1) y.1 y.0))) h)
    ∙ sym (ap (λ ys. write_entries item (entries_of (named_entities ys)) ms) cut)

pub import_written : (name : List ℕ) (e : EntityTree) (ty : TypeRef) (top next : WrittenScope) (old mid new : List WrittenScope) → old ≡ top ∷ [] → mid ≡ next ∷ [] → counted ty (declare (tree.Import name ty) top) ≡ next → new ≡ noted e top mid → new ≡ write_import name e ty old
unfolding with_named
import_written name e ty top next old mid new was is c n = n ∙ ap (noted e top) (is ∙ ap (λ m. m ∷ []) (sym c)) ∙ sym (ap (write_import name e ty) was)

-- a component brings nothing
nothing_noted : (is es : Entries) (m : WrittenScope) (ms : List WrittenScope) → ms ≡ noted (IsComponent is es) m ms
unfolding note_here
nothing_noted is es m ms = refl

-- an import of a component, which brings nothing
pub component_imported : (is es : Entries) (name : List ℕ) (ty : TypeRef) (top next : WrittenScope)
    (old new : List WrittenScope)
    → old ≡ top ∷ [] → new ≡ next ∷ [] → counted ty (declare (tree.Import name ty) top) ≡ next
    → new ≡ write_import name (IsComponent is es) ty old
component_imported is es name ty top next old new was is_ c =
    import_written name (IsComponent is es) ty top next old new new was is_ c (nothing_noted is es top new)
