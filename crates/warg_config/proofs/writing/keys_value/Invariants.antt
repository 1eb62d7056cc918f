-- the texts so far, and those that are left, are the keys
use Rattle.std.proofs.Common.{◌≡◌, ◌++◌, map}
use Rattle.serde_json.specs.Data.{string}
use Rattle.serde_json.specs.View.{view}
use Rattle.warg_config.proofs.writing.keys_value.Given as goal

abbrev pub invariant-loop-key : goal.invariant-loop-key
invariant-loop-key l = map view l.values.items ++ map string l.key-iterator ≡ map string l.keys.keys
