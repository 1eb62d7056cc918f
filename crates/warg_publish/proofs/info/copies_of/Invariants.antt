use Rattle.std.proofs.Common.{◌≡◌, take, map}
use Rattle.warg_publish.specs.Shown.{entry_view}
use Rattle.warg_publish.proofs.info.copies_of.Given as goal

abbrev pub invariant-loop-entry : goal.invariant-loop-entry
invariant-loop-entry l = map entry_view l.copies.items ≡ map entry_view (take l.entry-index l.entries)
