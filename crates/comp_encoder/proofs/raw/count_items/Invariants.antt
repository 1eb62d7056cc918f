use Rattle.std.proofs.Common.{◌≡◌, ◌+◌, ◌<◌, ◌^◌, length, map, take}
use Rattle.std.specs.Prelude.{count_by, slice_index}
use Rattle.comp_format.specs.declared.types.Sort.{Sort}
use Rattle.comp_format.specs.Items.{item_tree}
use Rattle.comp_format.specs.Spaces.{space_of}
use Rattle.comp_encoder.specs.Writing.{item_sort, numbers}
use Rattle.comp_encoder.proofs.raw.count_items.Given as goal

abbrev pub invariant-loop-item : goal.invariant-loop-item
invariant-loop-item l = record {
  long : length l.sizes ≡ 11;
  small : (kind : Sort) → slice_index l.sizes (space_of kind) < 2 ^ 32;
  counted : (kind : Sort) → slice_index l.sizes (space_of kind) ≡ slice_index l.fn.counts (space_of kind) + count_by (λ item. numbers (space_of kind) (item_sort item)) (map item_tree (take l.item-index l.items));
}
