use Rattle.std.proofs.Common.{◌≡◌, map, take}
use Rattle.std.specs.List.{flat_map}
use Rattle.comp_format.specs.Items.{item_tree}
use Rattle.compose_component.specs.Component.{import_in}
use Rattle.compose_component.proofs.component.Component.imports_among.Given as goal

abbrev pub invariant-loop-item : goal.invariant-loop-item
invariant-loop-item l = l.imports.items ≡ flat_map import_in (map item_tree (take l.item-index l.items))
