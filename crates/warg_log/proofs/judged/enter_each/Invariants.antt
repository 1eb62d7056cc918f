use Rattle.std.proofs.Common.{◌≡◌, drop, map}
use Rattle.warg_log.specs.Facts.{known_by, known_entries_breach, known_steps, undone_all, CanUndoAll}
use Rattle.warg_log.proofs.judged.enter_each.Given as goal

abbrev pub invariant-loop-entry : goal.invariant-loop-entry
invariant-loop-entry g l = record {
  breach : known_entries_breach g.E.LogEntry.kind l.signer l.first (known_by l.facts) (map g.E.LogEntry.plain (drop l.entry-index l.entries))
      ≡ known_entries_breach g.E.LogEntry.kind l.signer l.opens (known_by l.fn.facts) (map g.E.LogEntry.plain l.entries);
  after : known_steps g.E.LogEntry.kind (known_by l.facts) (map g.E.LogEntry.plain (drop l.entry-index l.entries))
      ≡ known_steps g.E.LogEntry.kind (known_by l.fn.facts) (map g.E.LogEntry.plain l.entries);
  undo : undone_all l.undos.items (known_by l.facts) ≡ undone_all l.fn.undos.items (known_by l.fn.facts);
  can : CanUndoAll l.undos.items (known_by l.facts);
}
