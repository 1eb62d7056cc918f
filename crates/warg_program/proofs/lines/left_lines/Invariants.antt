use Rattle.std.proofs.Common.{◌≡◌, string_bytes, take}
use Rattle.std.specs.List.{flat_map}
use Rattle.warg_program.specs.Lines.{left_line}
use Rattle.warg_program.proofs.lines.left_lines.Given as goal

abbrev pub invariant-loop-name : goal.invariant-loop-name
invariant-loop-name l = string_bytes l.lines ≡ flat_map left_line (take l.name-index l.names)
