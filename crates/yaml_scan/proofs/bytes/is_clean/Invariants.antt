use Rattle.std.proofs.Common.{◌≡◌, drop}
use Rattle.yaml_scan.specs.Bytes as spec
use Rattle.yaml_scan.proofs.bytes.is_clean.Given as goal

abbrev pub invariant-loop-at : goal.invariant-loop-at
invariant-loop-at l = spec.is_clean (drop l.at l.line) ≡ spec.is_clean l.fn.line
