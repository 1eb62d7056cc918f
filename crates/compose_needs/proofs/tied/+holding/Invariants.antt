use Rattle.std.proofs.Common.{◌≡◌, drop}
use Rattle.comp_entity.specs.Views.{entries_of, named_entities}
use Rattle.compose_needs.specs.Tied.{entries_hold_tied}
use Rattle.compose_needs.proofs.tied.+holding.Given as goal

abbrev pub invariant-entries_hold_tied-loop-entry : goal.invariant-entries_hold_tied-loop-entry
invariant-entries_hold_tied-loop-entry l =
    entries_hold_tied (entries_of (named_entities (drop l.entry-index l.entries))) ≡ entries_hold_tied (entries_of (named_entities l.entries))
