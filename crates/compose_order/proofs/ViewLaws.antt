-- What entities mean, by cases.
use Rattle.std.proofs.Common.{◌≡◌, sym, ap, ◌∙◌}
use Rattle.comp_entity.specs.declared.entity.InstanceShape.{InstanceShape, fold-roll-InstanceShape}
use Rattle.comp_entity.specs.declared.entity.Entity.{fold-roll-Entity}
use Rattle.comp_entity.specs.declared.entity.Entity.TheOpen as layer
use Rattle.comp_entity.specs.declared.entity.Entity.TheVariants as entity
use Rattle.comp_entity.specs.Entity.{TypeShapeTree, EntityTree, IsInstance, Entries}
use Rattle.comp_entity.specs.Views.{entries_of, named_entities, Sides, entity_step, type_step, component_step, instance_step, entity_tree, instance_entries}

pub instance_is : (t : InstanceShape) → instance_entries t ≡ entries_of (named_entities t.exports.items)
instance_is t = fold-roll-InstanceShape EntityTree TypeShapeTree Sides Entries entity_step type_step component_step instance_step (record { exports = t.exports })

pub entity_instance : (t : InstanceShape) → entity_tree (entity.Instance t) ≡ IsInstance (entries_of (named_entities t.exports.items))
entity_instance t = ap entity_tree (sym (entity.rolls-Instance t)) ∙ fold-roll-Entity EntityTree TypeShapeTree Sides Entries entity_step type_step component_step instance_step (layer.«Entity::Instance» t) ∙ ap IsInstance (instance_is t)
