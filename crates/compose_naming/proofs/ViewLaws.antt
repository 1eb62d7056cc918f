-- Entities, by cases.
use Rattle.std.proofs.Common.{◌≡◌, sym, ap, ◌∙◌}
use Rattle.comp_entity.specs.declared.entity.InstanceShape.{InstanceShape, fold-roll-InstanceShape}
use Rattle.comp_entity.specs.declared.entity.ComponentShape.{ComponentShape, fold-roll-ComponentShape}
use Rattle.comp_entity.specs.declared.entity.TypeShape.{fold-roll-TypeShape}
use Rattle.comp_entity.specs.declared.entity.TypeShape.TheVariants as type
use Rattle.comp_entity.specs.declared.entity.Entity.{fold-roll-Entity}
use Rattle.comp_entity.specs.declared.entity.Entity.TheOpen as layer
use Rattle.comp_entity.specs.declared.entity.Entity.TheVariants as entity
use Rattle.comp_entity.specs.Entity.{TypeShapeTree, Instance, EntityTree, IsInstance, Entries}
use Rattle.comp_entity.specs.Views.{entries_of, named_entities, Sides, entity_step, type_step, component_step, instance_step, entity_tree, type_tree, component_sides, instance_entries}

instance_is : (t : InstanceShape) → instance_entries t ≡ entries_of (named_entities t.exports.items)
instance_is t = fold-roll-InstanceShape EntityTree TypeShapeTree Sides Entries entity_step type_step component_step instance_step (record { exports = t.exports })

pub component_is : (t : ComponentShape) → component_sides t ≡ record { imports = entries_of (named_entities t.imports.items); exports = entries_of (named_entities t.exports.items) }
component_is t = fold-roll-ComponentShape EntityTree TypeShapeTree Sides Entries entity_step type_step component_step instance_step (record { imports = t.imports; exports = t.exports })

pub entity_instance : (t : InstanceShape) → entity_tree (entity.Instance t) ≡ IsInstance (entries_of (named_entities t.exports.items))
entity_instance t = ap entity_tree (sym (entity.rolls-Instance t)) ∙ fold-roll-Entity EntityTree TypeShapeTree Sides Entries entity_step type_step component_step instance_step (layer.«Entity::Instance» t) ∙ ap IsInstance (instance_is t)

pub type_instance : (t : InstanceShape) → type_tree (type.Instance t) ≡ Instance (entries_of (named_entities t.exports.items))
type_instance t = ap type_tree (sym (type.rolls-Instance t)) ∙ fold-roll-TypeShape EntityTree TypeShapeTree Sides Entries entity_step type_step component_step instance_step (layer.«TypeShape::Instance» t) ∙ ap Instance (instance_is t)
