use Rattle.std.proofs.Common.{◌≡◌, map, take}
use Rattle.compose_left.specs.Numbers.{AreOrigins}
use Rattle.compose_left.specs.Wiring.{Wiring}
use Rattle.compose_order.specs.Known.{known_left}
use Rattle.compose_order.specs.Needs.{left_place}
use Rattle.compose_needs.specs.Lefts.{lefts_of}
use Rattle.compose_order.proofs.needs.left_places.Given as goal

abbrev pub invariant-loop-leaf : goal.invariant-loop-leaf
invariant-loop-leaf l = (w : Wiring) → AreOrigins l.origins w
    → l.places.items ≡ map (left_place (lefts_of w) (known_left l.known)) (take l.leaf-index l.known.leaves.items)
