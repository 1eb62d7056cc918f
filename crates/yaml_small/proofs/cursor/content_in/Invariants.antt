use Rattle.std.proofs.Common.{◌≡◌, option_copied}
use Rattle.yaml_scan.specs.Lines.{lines_behind, size_behind}
use Rattle.yaml_small.specs.Places as spec
use Rattle.yaml_small.proofs.cursor.content_in.Given as goal

abbrev pub invariant-loop-rest : goal.invariant-loop-rest
invariant-loop-rest l = spec.next_at (lines_behind (option_copied l.rest)) ≡ spec.next_at (lines_behind (option_copied l.fn.later))

abbrev pub decreases-loop-rest : goal.decreases-loop-rest
decreases-loop-rest l = size_behind (option_copied l.rest)
