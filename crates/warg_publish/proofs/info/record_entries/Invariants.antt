-- the entries so far
use Rattle.std.proofs.Common.{◌≡◌, map}
use Rattle.std.specs.List.{AllByRecursion}
use Rattle.warg_record.specs.View.{package_entry_view}
use Rattle.warg_publish.specs.Formed.{IsFormed}
use Rattle.warg_publish.specs.Publish.{record_entry}
use Rattle.warg_publish.specs.Shown.{entry_view}
use Rattle.warg_publish.proofs.info.record_entries.Given as goal

abbrev pub invariant-loop-entry : goal.invariant-loop-entry
invariant-loop-entry l =
    (map package_entry_view l.made.items ≡ map (record_entry l.signer) (map entry_view l.yielded))
    × AllByRecursion (IsFormed l.signer) (map entry_view l.yielded)
