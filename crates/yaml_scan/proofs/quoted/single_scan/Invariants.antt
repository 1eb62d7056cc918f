use Rattle.std.proofs.Common.{◌≡◌, length}
use Rattle.yaml_scan.specs.QuotedScan as spec
use Rattle.yaml_scan.proofs.quoted.single_scan.Given as goal

abbrev pub invariant-scalar : goal.invariant-scalar
invariant-scalar l = spec.with_text l.text.items (spec.single_at l.rest) ≡ spec.single_at l.fn.line

abbrev pub decreases-scalar : goal.decreases-scalar
decreases-scalar l = length l.rest
