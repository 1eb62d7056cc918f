use Rattle.std.proofs.Common.{◌≡◌, take}
use Rattle.compose_check.specs.Spread.{Holds, with_numbers}
use Rattle.compose_check.proofs.circles.add_new.Given as goal

abbrev pub invariant-loop-number : goal.invariant-loop-number
invariant-loop-number l = record {
  list : l.list.items ≡ with_numbers l.fn.list.items (take l.number-index l.numbers);
  seen : Holds l.seen l.list.items;
}
