use Rattle.std.proofs.Common.{◌≡◌, take}
use Rattle.comp_define.specs.Orders.{below}
use Rattle.comp_define.proofs.orders.is_in_order.Given as goal

abbrev pub invariant-loop-place : goal.invariant-loop-place
invariant-loop-place l = take l.place l.numbers.keys ≡ below l.place
