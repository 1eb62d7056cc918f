use Rattle.std.proofs.Common.{◌≡◌, drop}
use Rattle.comp_entity.specs.Views.{entries_of, named_entities}
use Rattle.compose_naming.specs.Bits.{behind_all}
use Rattle.compose_naming.specs.Scopes.{scopes_in}
use Rattle.compose_naming.proofs.entities.+passing.Given as goal

abbrev pub invariant-pass_entries-loop-entry : goal.invariant-pass_entries-loop-entry
invariant-pass_entries-loop-entry l =
    behind_all (entries_of (named_entities (drop l.entry-index l.entries))) (scopes_in l.scopes.items)
    ≡ behind_all (entries_of (named_entities l.entries)) (scopes_in l.fn.scopes.items)
