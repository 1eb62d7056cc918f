use Rattle.std.proofs.Common.{take}
use Rattle.compose_naming.specs.Scopes.{FindsPlaces}
use Rattle.compose_naming.proofs.lefts.places_in.Given as goal

abbrev pub invariant-loop-leaf : goal.invariant-loop-leaf
invariant-loop-leaf l = FindsPlaces l.places (take l.leaf-index l.leaf-items)
