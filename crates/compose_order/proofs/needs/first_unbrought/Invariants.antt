use Rattle.std.proofs.Common.{◌≡◌, take, true}
use Rattle.std.specs.List.{AllByRecursion}
use Rattle.compose_left.specs.Numbers.{AreOrigins}
use Rattle.compose_left.specs.Wiring.{Wiring}
use Rattle.compose_order.specs.Known.{AreKnown, Imports}
use Rattle.compose_order.specs.Needs.{LeftTree, is_brought}
use Rattle.compose_needs.specs.Lefts.{lefts_of}
use Rattle.compose_order.proofs.needs.first_unbrought.Given as goal

abbrev pub invariant-loop-number : goal.invariant-loop-number
invariant-loop-number l = (w : Wiring) (ls : Imports) → AreOrigins l.origins w → AreKnown l.all ls
    → AllByRecursion (λ (m : LeftTree). is_brought (lefts_of w) m ≡ true) (take l.number ls)
