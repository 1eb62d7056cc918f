use Rattle.std.proofs.Common.{◌≡◌, take, map}
use Rattle.warg_info.specs.Info.{kept_view}
use Rattle.warg_info.proofs.log.copies_of.Given as goal

abbrev pub invariant-loop-record : goal.invariant-loop-record
invariant-loop-record g l =
    map (kept_view g.E.LogEntry.plain) l.copies.items ≡ map (kept_view g.E.LogEntry.plain) (take l.record-index l.records)
