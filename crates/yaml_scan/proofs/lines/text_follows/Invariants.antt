use Rattle.std.proofs.Common.{◌≡◌, option_copied}
use Rattle.yaml_scan.specs.Lines as spec
use Rattle.yaml_scan.proofs.lines.text_follows.Given as goal

abbrev pub invariant-loop-rest : goal.invariant-loop-rest
invariant-loop-rest l = spec.text_follows (spec.lines_behind (option_copied l.rest)) ≡ spec.text_follows (spec.lines_behind (option_copied l.fn.later))

abbrev pub decreases-loop-rest : goal.decreases-loop-rest
decreases-loop-rest l = spec.size_behind (option_copied l.rest)
