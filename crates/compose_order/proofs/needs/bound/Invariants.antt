use Rattle.std.proofs.Common.{◌≡◌, ◌++◌, drop}
use Rattle.std.specs.Prelude.{filter}
use Rattle.compose_left.specs.Numbers.{AreOrigins}
use Rattle.compose_left.specs.Wiring.{Wiring}
use Rattle.compose_order.specs.Known.{known_left}
use Rattle.compose_order.specs.Needs.{is_bound}
use Rattle.compose_needs.specs.Lefts.{lefts_of}
use Rattle.compose_order.proofs.needs.bound.Given as goal

abbrev pub invariant-loop-thing : goal.invariant-loop-thing
invariant-loop-thing l = (w : Wiring) → AreOrigins l.origins w
    → l.bound.items ++ filter (is_bound (lefts_of w) (known_left l.known)) (drop l.thing-index l.things) ≡ filter (is_bound (lefts_of w) (known_left l.known)) l.things
