use Rattle.std.proofs.Common.{take}
use Rattle.compose_order.specs.Known.{AreCalls}
use Rattle.compose_order.proofs.calls.calls_of.Given as goal

abbrev pub invariant-loop-spot : goal.invariant-loop-spot
invariant-loop-spot l = AreCalls l.calls (take l.spot-index l.spots)
