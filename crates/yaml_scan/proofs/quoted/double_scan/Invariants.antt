use Rattle.std.proofs.Common.{◌≡◌, length}
use Rattle.yaml_scan.specs.QuotedScan as spec
use Rattle.yaml_scan.specs.Turns.{standing}
use Rattle.yaml_scan.proofs.quoted.double_scan.Given as goal

abbrev pub invariant-scalar : goal.invariant-scalar
invariant-scalar l = spec.with_text l.text.items (spec.double_at l.rest (standing l.inside)) ≡ spec.double_at l.fn.line spec.Text

abbrev pub decreases-scalar : goal.decreases-scalar
decreases-scalar l = length l.rest
