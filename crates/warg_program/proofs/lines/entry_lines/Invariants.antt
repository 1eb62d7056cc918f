use Rattle.std.proofs.Common.{◌≡◌, map, string_bytes, take}
use Rattle.std.specs.List.{flat_map}
use Rattle.warg_plan.specs.View.{entry_view}
use Rattle.warg_program.specs.Lines.{entry_line}
use Rattle.warg_program.proofs.lines.entry_lines.Given as goal

abbrev pub invariant-loop-entry : goal.invariant-loop-entry
invariant-loop-entry l = string_bytes l.lines ≡ flat_map entry_line (map entry_view (take l.entry-index l.entries))
