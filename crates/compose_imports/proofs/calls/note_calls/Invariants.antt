use Rattle.std.proofs.Common.{◌≡◌, take}
use Rattle.compose_image.specs.Imports.{all_called}
use Rattle.compose_types.specs.Scopes.{scopes}
use Rattle.compose_imports.proofs.calls.note_calls.Given as goal

abbrev pub invariant-loop-call : goal.invariant-loop-call
invariant-loop-call l = scopes l.state ≡ all_called l.index (take l.call-index l.calls) (scopes l.initial.state)
