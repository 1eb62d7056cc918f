-- Laws of core modules in memory.
use Rattle.std.proofs.Common.{◌≡◌, sym, ◌∙◌, ap}
use Rattle.comp_entity.specs.declared.module.ModuleShape.{ModuleShape}
use Rattle.comp_entity.specs.declared.entity.Entity.{fold-roll-Entity}
use Rattle.comp_entity.specs.declared.entity.Entity.TheOpen as layer
use Rattle.comp_entity.specs.declared.entity.Entity.TheVariants as entity
use Rattle.comp_entity.specs.Entity.{EntityTree, TypeShapeTree, Entries, IsModule}
use Rattle.comp_entity.specs.Views.{Sides, entity_step, type_step, component_step, instance_step, entity_tree}

pub module_tree : (m : ModuleShape) → entity_tree (entity.Module m) ≡ IsModule m
module_tree m = ap entity_tree (sym (entity.rolls-Module m)) ∙ fold-roll-Entity EntityTree TypeShapeTree Sides Entries entity_step type_step component_step instance_step (layer.Module m)
