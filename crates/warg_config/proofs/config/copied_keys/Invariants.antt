-- the keys so far, and those that are left, are the keys, of which no two are equal
use Rattle.std.proofs.Common.{◌≡◌, ◌++◌, bytes_eq}
use Rattle.std.specs.List.{IsDistinct}
use Rattle.warg_config.proofs.config.copied_keys.Given as goal

abbrev pub invariant-loop-key : goal.invariant-loop-key
invariant-loop-key l = (l.copy.keys ++ l.key-iterator ≡ l.keys.keys) × IsDistinct bytes_eq l.keys.keys
