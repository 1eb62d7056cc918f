use Rattle.std.proofs.Common.{◌≡◌, ◌++◌, string_bytes, flat_map}
use Rattle.yaml_text.specs.Texts as spec
use Rattle.yaml_text.proofs.leaf.push_block_chars.Given as goal

abbrev pub invariant-loop-c : goal.invariant-loop-c
invariant-loop-c l = string_bytes l.out ≡ string_bytes l.initial.out ++ flat_map (spec.block_char l.level) l.yielded
