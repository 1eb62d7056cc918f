-- the entries so far
use Rattle.std.proofs.Common.{◌≡◌, map}
use Rattle.warg_publish.specs.Shown.{entry_view}
use Rattle.warg_publish_text.specs.declared.stored.StoredEntry.{StoredEntry}
use Rattle.warg_publish_text.proofs.stored.entries_of.Given as goal

abbrev pub invariant-loop-stored : goal.invariant-loop-stored
invariant-loop-stored l =
    map entry_view l.entries.items ≡ map (λ (s : StoredEntry). entry_view s.entry) l.yielded
