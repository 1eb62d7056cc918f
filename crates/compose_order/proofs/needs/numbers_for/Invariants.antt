use Rattle.std.proofs.Common.{◌≡◌, ◌++◌, drop, flat_map}
use Rattle.compose_left.specs.Numbers.{AreOrigins}
use Rattle.compose_left.specs.Wiring.{Wiring}
use Rattle.compose_order.specs.Agreed.{numbers_of}
use Rattle.compose_order.specs.Known.{AreKnown, Imports, known_left}
use Rattle.compose_needs.specs.Lefts.{lefts_of}
use Rattle.compose_order.specs.Needs.{need_of}
use Rattle.compose_order.proofs.needs.numbers_for.Given as goal

abbrev pub invariant-loop-thing : goal.invariant-loop-thing
invariant-loop-thing l = (w : Wiring) (ls : Imports) → AreOrigins l.origins w → AreKnown l.all ls
    → l.numbers.items ++ numbers_of ls (flat_map (need_of (lefts_of w) (known_left l.known)) (drop l.thing-index l.things))
    ≡ numbers_of ls (flat_map (need_of (lefts_of w) (known_left l.known)) l.things)
