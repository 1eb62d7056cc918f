use Rattle.std.proofs.Common.{◌≡◌, ◌++◌, length, take, max, All}
use Rattle.std.specs.List.{flat_map}
use Rattle.comp_format.specs.Numbers.{number_text}
use Rattle.comp_encoder.specs.Largest.{largest_among}
use Rattle.comp_encoder.proofs.parts.write_vector.Given as goal

abbrev pub invariant-loop-value : goal.invariant-loop-value
invariant-loop-value g l = record {
  text : l.out.bytes.items ≡ l.fn.out.bytes.items ++ (number_text (length l.values) ++ flat_map g.T.Encode.text (take l.value-index l.values));
  largest : l.out.largest ≡ max (max l.fn.out.largest (length l.values)) (largest_among g.T.Encode.largest (take l.value-index l.values));
  texts : All g.T.Encode.texts (take l.value-index l.values);
}
