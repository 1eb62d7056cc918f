-- Laws of entities in memory, as trees of heads.
use Rattle.std.specs.Prelude.{◌≡◌, ℕ, ◌+◌, ◌<◌, List, [], ◌∷◌, ◌++◌, map, take, length, slice_index_or, refl, Result, Ok, Err, OnOk}
use Rattle.std.proofs.Common.{sym, ◌∙◌, ap, subst, arith}
use Rattle.std.proofs.lemmas.List.{take_more, take_all}
use Rattle.comp_entity.specs.declared.entity.InstanceShape.{InstanceShape, fold-roll-InstanceShape}
use Rattle.comp_entity.specs.declared.entity.ComponentShape.{ComponentShape, fold-roll-ComponentShape}
use Rattle.comp_entity.specs.declared.entity.TypeShape.{TypeShape, fold-roll-TypeShape}
use Rattle.comp_entity.specs.declared.entity.TypeShape.TheVariants as type
use Rattle.comp_entity.specs.declared.entity.Entity.{Entity, fold-roll-Entity}
use Rattle.comp_entity.specs.declared.entity.Entity.TheOpen as layer
use Rattle.comp_entity.specs.declared.entity.Entity.TheVariants as entity
use Rattle.comp_entity.specs.Entity.{TypeShapeTree, Instance, Component, EntityTree, IsType, IsInstance, IsComponent, Entries}
use Rattle.comp_entity.specs.Views.{entries_of, named_entities, Sides, entity_step, type_step, component_step, instance_step, entity_tree, type_tree, component_sides, instance_entries}
use Rattle.comp_table.specs.declared.head.Head.TheVariants as head
use Rattle.comp_table.specs.Trees.{tree, more, trees_of}
use Rattle.comp_table.specs.Plain.{around_two, plain_type, plain_entity, plain_entries}
use Rattle.comp_table.specs.Shown.{IsShown, AreShown}
use Rattle.comp_table.specs.Rows.{entity_plain, type_plain, entry_plain}

entries_plain : (es : List (List ℕ × Entity)) → plain_entries (entries_of (named_entities es)) ≡ trees_of (map entry_plain es)
entries_plain [] = refl
entries_plain (e ∷ es) = ap (more (entry_plain e)) (entries_plain es)

pub instance_rows : (t : InstanceShape) → plain_entries (instance_entries t) ≡ trees_of (map entry_plain t.exports.items)
instance_rows t = ap plain_entries (fold-roll-InstanceShape EntityTree TypeShapeTree Sides Entries entity_step type_step component_step instance_step (record { exports = t.exports })) ∙ entries_plain t.exports.items

pub component_is : (t : ComponentShape) → component_sides t ≡ record { imports = entries_of (named_entities t.imports.items); exports = entries_of (named_entities t.exports.items) }
component_is t = fold-roll-ComponentShape EntityTree TypeShapeTree Sides Entries entity_step type_step component_step instance_step (record { imports = t.imports; exports = t.exports })

pub import_rows : (t : ComponentShape) → plain_entries (component_sides t).imports ≡ trees_of (map entry_plain t.imports.items)
import_rows t = ap (λ (s : Sides). plain_entries s.imports) (component_is t) ∙ entries_plain t.imports.items

pub export_rows : (t : ComponentShape) → plain_entries (component_sides t).exports ≡ trees_of (map entry_plain t.exports.items)
export_rows t = ap (λ (s : Sides). plain_entries s.exports) (component_is t) ∙ entries_plain t.exports.items

pub entity_instance : (t : InstanceShape) → entity_plain (entity.Instance t) ≡ tree head.Instance (plain_entries (instance_entries t))
entity_instance t = ap entity_plain (sym (entity.rolls-Instance t)) ∙ ap plain_entity (fold-roll-Entity EntityTree TypeShapeTree Sides Entries entity_step type_step component_step instance_step (layer.«Entity::Instance» t))

pub entity_component : (t : ComponentShape) → entity_plain (entity.Component t) ≡ around_two head.Component (tree head.Entries (plain_entries (component_sides t).imports)) (tree head.Entries (plain_entries (component_sides t).exports))
entity_component t = ap entity_plain (sym (entity.rolls-Component t)) ∙ ap plain_entity (fold-roll-Entity EntityTree TypeShapeTree Sides Entries entity_step type_step component_step instance_step (layer.«Entity::Component» t))

pub type_instance : (t : InstanceShape) → type_plain (type.Instance t) ≡ tree head.InstanceType (plain_entries (instance_entries t))
type_instance t = ap type_plain (sym (type.rolls-Instance t)) ∙ ap plain_type (fold-roll-TypeShape EntityTree TypeShapeTree Sides Entries entity_step type_step component_step instance_step (layer.«TypeShape::Instance» t))

pub type_component : (t : ComponentShape) → type_plain (type.Component t) ≡ around_two head.ComponentType (tree head.Entries (plain_entries (component_sides t).imports)) (tree head.Entries (plain_entries (component_sides t).exports))
type_component t = ap type_plain (sym (type.rolls-Component t)) ∙ ap plain_type (fold-roll-TypeShape EntityTree TypeShapeTree Sides Entries entity_step type_step component_step instance_step (layer.«TypeShape::Component» t))

-- the same as trees of entities

pub tree_of_instance : (t : InstanceShape) → entity_tree (entity.Instance t) ≡ IsInstance (instance_entries t)
tree_of_instance t = ap entity_tree (sym (entity.rolls-Instance t)) ∙ fold-roll-Entity EntityTree TypeShapeTree Sides Entries entity_step type_step component_step instance_step (layer.«Entity::Instance» t)

pub tree_of_component : (t : ComponentShape) → entity_tree (entity.Component t) ≡ IsComponent (component_sides t).imports (component_sides t).exports
tree_of_component t = ap entity_tree (sym (entity.rolls-Component t)) ∙ fold-roll-Entity EntityTree TypeShapeTree Sides Entries entity_step type_step component_step instance_step (layer.«Entity::Component» t)

pub tree_of_type : (t : TypeShape) → entity_tree (entity.Ty t) ≡ IsType (type_tree t)
tree_of_type t = ap entity_tree (sym (entity.rolls-Ty t)) ∙ fold-roll-Entity EntityTree TypeShapeTree Sides Entries entity_step type_step component_step instance_step (layer.Ty t)

pub type_tree_of_instance : (t : InstanceShape) → type_tree (type.Instance t) ≡ Instance (instance_entries t)
type_tree_of_instance t = ap type_tree (sym (type.rolls-Instance t)) ∙ fold-roll-TypeShape EntityTree TypeShapeTree Sides Entries entity_step type_step component_step instance_step (layer.«TypeShape::Instance» t)

pub type_tree_of_component : (t : ComponentShape) → type_tree (type.Component t) ≡ Component (component_sides t).imports (component_sides t).exports
type_tree_of_component t = ap type_tree (sym (type.rolls-Component t)) ∙ fold-roll-TypeShape EntityTree TypeShapeTree Sides Entries entity_step type_step component_step instance_step (layer.«TypeShape::Component» t)

pub instance_is : (t : InstanceShape) → instance_entries t ≡ entries_of (named_entities t.exports.items)
instance_is t = fold-roll-InstanceShape EntityTree TypeShapeTree Sides Entries entity_step type_step component_step instance_step (record { exports = t.exports })

shown_push : (es : List (List ℕ × Entity)) (e : List ℕ × Entity) → AreShown (entries_of (named_entities es)) → IsShown (entity_tree e.1) → AreShown (entries_of (named_entities (es ++ e ∷ [])))
shown_push [] e a s = (s, tt)
shown_push (x ∷ es) e a s = (a.0, shown_push es e a.1 s)

pub shown_step : (es : List (List ℕ × Entity)) (i : ℕ) (e : List ℕ × Entity) → i < length es → e ≡ slice_index_or es i e → AreShown (entries_of (named_entities (take i es))) → IsShown (entity_tree e.1) → AreShown (entries_of (named_entities (take (i + 1) es)))
shown_step es i e lt is a s =
    subst (λ xs. AreShown (entries_of (named_entities xs))) (sym (take_more es i e lt))
    (subst (λ x. AreShown (entries_of (named_entities (take i es ++ x ∷ [])))) is (shown_push (take i es) e a s))

pub shown_end : (es : List (List ℕ × Entity)) → AreShown (entries_of (named_entities (take (length es) es))) → AreShown (entries_of (named_entities es))
shown_end es a = subst (λ xs. AreShown (entries_of (named_entities xs))) (take_all (length es) es (omega arith)) a

pub on_ok_always : {T E P : Type 0} (r : Result T E) → P → OnOk r P
on_ok_always (Ok x) p = p
on_ok_always (Err e) p = tt
