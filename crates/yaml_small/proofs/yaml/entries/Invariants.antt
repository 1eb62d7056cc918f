use Rattle.std.proofs.Common.{◌≡◌, ◌++◌}
use Rattle.yaml_small.proofs.yaml.entries.Given as goal

abbrev pub invariant-loop-pair : goal.invariant-loop-pair
invariant-loop-pair l = l.made.items ++ l.pair-iterator ≡ l.fn.pairs.entries
