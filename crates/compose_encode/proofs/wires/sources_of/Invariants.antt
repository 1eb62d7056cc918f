use Rattle.std.proofs.Common.{take}
use Rattle.compose_encode.specs.Held.{AreSources}
use Rattle.compose_encode.proofs.wires.sources_of.Given as goal

abbrev pub invariant-loop-wire : goal.invariant-loop-wire
invariant-loop-wire l = AreSources l.sources (take l.wire-index l.wires)
