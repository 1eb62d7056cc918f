use Rattle.std.proofs.Common.{◌≡◌, ◌++◌, take, map}
use Rattle.warg_record.specs.Record.{entry_text}
use Rattle.warg_record.specs.Wire.{fields}
use Rattle.warg_record.proofs.envelope.push_entries.Given as goal

abbrev pub invariant-loop-entry : goal.invariant-loop-entry
invariant-loop-entry g l = l.out.items ≡ l.fn.out.items ++ fields 4 (map entry_text (map g.E.LogEntry.plain (take l.entry-index l.entries)))
