use Rattle.std.proofs.Common.{◌≡◌, length, map, take}
use Rattle.compose_agree.specs.Order.{needs_of}
use Rattle.compose_left.specs.Numbers.{AreOrigins}
use Rattle.compose_left.specs.Wiring.{Wiring}
use Rattle.compose_order.specs.Agreed.{numbers_needed}
use Rattle.compose_order.specs.Known.{AreKnown, Imports}
use Rattle.compose_needs.specs.Lefts.{lefts_of}
use Rattle.compose_order.proofs.needs.all_needs.Given as goal

abbrev pub invariant-loop-known : goal.invariant-loop-known
invariant-loop-known l = record {
  count : length l.needs.items ≡ l.known-index;
  needs : (w : Wiring) (ls : Imports) → AreOrigins l.origins w → AreKnown l.all ls → needs_of l.needs.items ≡ map (numbers_needed (lefts_of w) ls) (take l.known-index ls);
}
