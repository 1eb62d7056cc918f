use Rattle.std.proofs.Common.{◌≡◌, drop}
use Rattle.comp_entity.specs.Views.{entries_of, named_entities}
use Rattle.compose_writing.specs.WriteEntities.{write_entries}
use Rattle.compose_types.specs.Scopes.{inner_kind, item_of, scopes}
use Rattle.compose_types.proofs.entities.+entities.Given as goal

abbrev pub invariant-write_entries-loop-entry : goal.invariant-write_entries-loop-entry
invariant-write_entries-loop-entry l =
    (write_entries (item_of l.side) (entries_of (named_entities (drop l.entry-index l.entries))) (scopes l.state)
    ≡ write_entries (item_of l.side) (entries_of (named_entities l.fn.entries)) (scopes l.fn.state))
    × (inner_kind (scopes l.state) ≡ inner_kind (scopes l.fn.state))
