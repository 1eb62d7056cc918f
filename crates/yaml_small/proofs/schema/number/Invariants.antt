use Rattle.std.proofs.Common.{◌≡◌, ◌≤◌, drop}
use Rattle.yaml_small.specs.Schema as spec
use Rattle.yaml_small.proofs.Digits.{read_on}
use Rattle.yaml_small.proofs.schema.number.Given as goal

abbrev pub invariant-loop-byte : goal.invariant-loop-byte
invariant-loop-byte l = (read_on l.radix l.limit l.value (drop l.byte-index l.digits) ≡ spec.number l.radix l.limit l.digits) × (l.value ≤ l.limit)
