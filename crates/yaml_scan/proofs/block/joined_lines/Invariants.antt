use Rattle.std.proofs.Common.{◌+◌, ◌≤◌, option_copied}
use Rattle.yaml_scan.specs.Lines.{lines_behind, size_behind}
use Rattle.yaml_scan.proofs.Blocks.{bytes_behind, Progress}
use Rattle.yaml_scan.proofs.block.joined_lines.Given as goal

abbrev pub invariant-loop-rest : goal.invariant-loop-rest
invariant-loop-rest l = Progress l.folded l.indent (lines_behind (option_copied l.fn.later)) (lines_behind (option_copied l.rest)) l.text.items l.joined l.ends × (l.ends + bytes_behind (option_copied l.rest) ≤ bytes_behind (option_copied l.fn.later))

abbrev pub decreases-loop-rest : goal.decreases-loop-rest
decreases-loop-rest l = size_behind (option_copied l.rest)
