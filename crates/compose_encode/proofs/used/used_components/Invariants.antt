use Rattle.std.proofs.Common.{◌≡◌, ℕ, ◌<◌, ◌^◌, length}
use Rattle.std.specs.Prelude.{filter, slice_index}
use Rattle.std.specs.List.{range_with_len}
use Rattle.compose_check.specs.Composition.{composition_tree}
use Rattle.compose_image.specs.Imports.{is_used}
use Rattle.compose_encode.proofs.used.used_components.Given as goal

abbrev pub invariant-loop-number : goal.invariant-loop-number
invariant-loop-number l = record {
  numbers : l.used.numbers.items ≡ filter (is_used (composition_tree l.composition)) (range_with_len 0 l.number-counter);
  ranks : (n : ℕ) → n < l.number-counter → slice_index l.used.ranks.items n ≡ length (filter (is_used (composition_tree l.composition)) (range_with_len 0 n));
  small : (n : ℕ) → slice_index l.used.ranks.items n < 2 ^ 63;
  count : length l.used.ranks.items ≡ l.number-counter;
}
