use Rattle.std.proofs.Common.{◌≡◌, map, take}
use Rattle.comp_format.specs.Items.{item_tree}
use Rattle.comp_encoder.specs.Builder.{entries_of}
use Rattle.comp_encoder.specs.Writing.{items_of}
use Rattle.uses_components.proofs.encoder.written_again.Given as goal

abbrev pub invariant-loop-item : goal.invariant-loop-item
invariant-loop-item l = items_of (entries_of l.builder) ≡ map item_tree (take l.item-index l.item-items)
