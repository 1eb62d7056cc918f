use Rattle.std.proofs.Common.{◌≡◌, ◌≤◌, drop, false}
use Rattle.yaml_scan.specs.Plain as spec
use Rattle.yaml_scan.proofs.Loops.{whole_len}
use Rattle.yaml_scan.proofs.plain.plain_len.Given as goal

abbrev pub invariant-loop-at : goal.invariant-loop-at
invariant-loop-at l = (whole_len l.len l.at (spec.plain_len l.flow l.behind_white (drop l.at l.line)) ≡ spec.plain_len l.flow false l.line) × (l.len ≤ l.at)
