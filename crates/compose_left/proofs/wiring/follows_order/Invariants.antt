use Rattle.std.proofs.Common.{take, length}
use Rattle.std.specs.List.{AllByRecursion}
use Rattle.compose_left.specs.Wiring.{IsForward}
use Rattle.compose_left.proofs.wiring.follows_order.Given as goal

abbrev pub invariant-loop-wire : goal.invariant-loop-wire
invariant-loop-wire l = AllByRecursion (IsForward (length l.shapes)) (take l.wire-index l.wires)
