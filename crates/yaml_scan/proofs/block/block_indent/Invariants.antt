use Rattle.std.proofs.Common.{◌≡◌, option_copied}
use Rattle.yaml_scan.specs.Lines.{lines_behind, size_behind}
use Rattle.yaml_scan.specs.Block as spec
use Rattle.yaml_scan.proofs.block.block_indent.Given as goal

abbrev pub invariant-loop-rest : goal.invariant-loop-rest
invariant-loop-rest l = spec.indent_of l.parent (lines_behind (option_copied l.rest)) ≡ spec.indent_of l.fn.parent (lines_behind (option_copied l.fn.later))

abbrev pub decreases-loop-rest : goal.decreases-loop-rest
decreases-loop-rest l = size_behind (option_copied l.rest)
