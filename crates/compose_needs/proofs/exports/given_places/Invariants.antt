use Rattle.std.proofs.Common.{◌≡◌, map, take}
use Rattle.compose_left.specs.Numbers.{AreOrigins}
use Rattle.compose_left.specs.Wiring.{Wiring}
use Rattle.compose_needs.specs.Exports.{given_place}
use Rattle.compose_needs.specs.Lefts.{lefts_of}
use Rattle.compose_needs.proofs.exports.given_places.Given as goal

abbrev pub invariant-loop-leaf : goal.invariant-loop-leaf
invariant-loop-leaf l = (w : Wiring) → AreOrigins l.origins w → l.places.items ≡ map (given_place (lefts_of w)) (take l.leaf-index l.leaves)
