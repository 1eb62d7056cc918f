use Rattle.std.proofs.Common.{◌≡◌, map}
use Rattle.std.specs.List.{flat_map}
use Rattle.comp_format.specs.Items.{item_tree}
use Rattle.compose_component.specs.Component.{export_in}
use Rattle.compose_component.proofs.component.Component.exports_among.Given as goal

abbrev pub invariant-loop-item : goal.invariant-loop-item
invariant-loop-item l = l.exports.items ≡ flat_map export_in (map item_tree l.yielded)
