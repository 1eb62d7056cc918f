use Rattle.std.proofs.Common.{◌≡◌, drop}
use Rattle.compose_order.specs.Known.{Leaves}
use Rattle.compose_naming.specs.Bits.{behind_calls}
use Rattle.compose_naming.specs.Scopes.{FindsPlaces, scopes_in}
use Rattle.compose_naming.proofs.lefts.pass_calls.Given as goal

abbrev pub invariant-loop-call : goal.invariant-loop-call
invariant-loop-call l = (leaves : Leaves) → FindsPlaces l.places leaves
    → behind_calls leaves (drop l.call-index l.calls) (scopes_in l.scopes.items)
    ≡ behind_calls leaves l.calls (scopes_in l.fn.scopes.items)
