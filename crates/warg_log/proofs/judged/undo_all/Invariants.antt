use Rattle.std.proofs.Common.{◌≡◌, vec_len}
use Rattle.warg_log.specs.Facts.{known_by, undone_all, CanUndoAll}
use Rattle.warg_log.proofs.judged.undo_all.Given as goal

abbrev pub invariant-loop-undo : goal.invariant-loop-undo
invariant-loop-undo l = record {
  can : CanUndoAll l.undos.items (known_by l.facts);
  left : undone_all l.undos.items (known_by l.facts) ≡ undone_all l.fn.undos.items (known_by l.fn.facts);
}

abbrev pub decreases-loop-undo : goal.decreases-loop-undo
decreases-loop-undo l = vec_len l.undos
