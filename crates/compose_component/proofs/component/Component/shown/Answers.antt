use Rattle.std.proofs.Common.{◌∙◌, ap}
use Rattle.std.specs.Prelude.{map}
use Rattle.std.specs.List.{flat_map}
use Rattle.comp_format.specs.Items.{item_tree}
use Rattle.comp_entity.specs.Views.{shape_tree}
use Rattle.compose_component.specs.Component.{import_in}
use Rattle.compose_component.proofs.ComponentLaws.{all_named}
use Rattle.compose_component.proofs.component.Component.shown.Goals as goal

pub returns-clause-read : goal.returns-clause-read
returns-clause-read c = record {
  items = map item_tree c.in-Ok.read.0.items;
  reads = c.in-Ok.ensures.items;
  has_shape = c.in-Ok.ensures.shape;
  imports_are = c.in_ok-imports.ensures ∙ ap (λ items. flat_map import_in (map item_tree items)) c.deref.ensures.value;
  exports_are = c.in_ok-exports.ensures;
}

pub returns-clause-named : goal.returns-clause-named
returns-clause-named c = all_named c.in-Ok.read.1.exports.items (c.names_are_not_empty.ensures c.args.bytes.now (shape_tree c.in-Ok.read.1) c.in-Ok.ensures.shape).1
