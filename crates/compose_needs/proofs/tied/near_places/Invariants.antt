use Rattle.std.proofs.Common.{◌≡◌, map, take}
use Rattle.compose_needs.specs.Tied.{near_place}
use Rattle.compose_needs.proofs.tied.near_places.Given as goal

abbrev pub invariant-loop-leaf : goal.invariant-loop-leaf
invariant-loop-leaf l = l.places.items ≡ map near_place (take l.leaf-index l.leaves)
