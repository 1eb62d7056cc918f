use Rattle.std.proofs.Common.{◌-◌, ◌^◌, ◌≤◌, length}
use Rattle.compose_agree.specs.Order.{needs_of}
use Rattle.compose_check.specs.Spread.{Holds, Spreads}
use Rattle.compose_check.proofs.circles.reached.Given as goal

abbrev pub invariant-loop-next : goal.invariant-loop-next
invariant-loop-next l = record {
  seen : Holds l.seen l.list.items;
  below : l.next ≤ length l.list.items;
  spreads : Spreads (needs_of l.needs) l.from l.next l.list.items;
}

abbrev pub decreases-loop-next : goal.decreases-loop-next
decreases-loop-next l = 2 ^ 64 - l.next
