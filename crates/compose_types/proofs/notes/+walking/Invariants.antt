use Rattle.std.proofs.Common.{◌≡◌, drop}
use Rattle.comp_entity.specs.Places.{leaves_in}
use Rattle.comp_entity.specs.Views.{entries_of, named_entities}
use Rattle.compose_writing.specs.WriteEntities.{note_all}
use Rattle.compose_writing.specs.WriteEntities.{leaves_known}
use Rattle.compose_types.specs.Scopes.{scopes}
use Rattle.compose_types.proofs.notes.+walking.Given as goal

abbrev pub invariant-note_exports-loop-export : goal.invariant-note_exports-loop-export
invariant-note_exports-loop-export l =
    note_all (leaves_known l.index (leaves_in l.path (entries_of (named_entities (drop l.export-index l.exports))))) (scopes l.state)
    ≡ note_all (leaves_known l.index (leaves_in l.path (entries_of (named_entities l.exports)))) (scopes l.fn.state)
