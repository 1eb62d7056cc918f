use Rattle.std.proofs.Common.{◌≡◌, ℕ, List, take}
use Rattle.compose_config.specs.Arguments.{is_among, is_in_set}
use Rattle.compose_config.proofs.arguments.set_of.Given as goal

abbrev pub invariant-loop-name : goal.invariant-loop-name
invariant-loop-name l = (name : List ℕ) → is_in_set l.set.keys name ≡ is_among (take l.name-index l.names) name
