use Rattle.std.proofs.Common.{◌≡◌, take, map}
use Rattle.warg_record.proofs.record.copies_of.Given as goal

abbrev pub invariant-loop-entry : goal.invariant-loop-entry
invariant-loop-entry g l = map g.E.LogEntry.plain l.copies.items ≡ map g.E.LogEntry.plain (take l.entry-index l.entries)
