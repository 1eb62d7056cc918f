use Rattle.std.proofs.Common.{◌≡◌, ◌++◌, string_bytes, flat_map}
use Rattle.yaml_text.specs.Texts as spec
use Rattle.yaml_text.proofs.leaf.push_quoted_chars.Given as goal

abbrev pub invariant-loop-c : goal.invariant-loop-c
invariant-loop-c l = string_bytes l.out ≡ string_bytes l.initial.out ++ flat_map (spec.quoted_char l.double) l.yielded
