use Rattle.std.proofs.Common.{take}
use Rattle.compose_left.specs.Wiring.{shapes_of}
use Rattle.compose_left.specs.Wired.{ArePlaces}
use Rattle.compose_left.proofs.wiring.all_places.Given as goal

abbrev pub invariant-loop-shape : goal.invariant-loop-shape
invariant-loop-shape l = ArePlaces l.found.items (shapes_of (take l.shape-index l.shapes))
