use Rattle.std.proofs.Common.{◌≡◌, length, map}
use Rattle.warg_record.specs.Reading.{each_field, entry_at}
use Rattle.warg_record.proofs.Loop.{behind}
use Rattle.warg_record.proofs.record.each_entry.Given as goal

abbrev pub invariant-loop-rest : goal.invariant-loop-rest
invariant-loop-rest g l =
    behind (map g.E.LogEntry.plain l.entries.items) (each_field (entry_at g.E.LogEntry.kind) 4 (length l.rest) l.rest)
    ≡ each_field (entry_at g.E.LogEntry.kind) 4 (length l.bytes) l.bytes

abbrev pub decreases-loop-rest : goal.decreases-loop-rest
decreases-loop-rest g l = length l.rest
