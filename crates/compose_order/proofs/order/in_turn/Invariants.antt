use Rattle.std.proofs.Common.{◌≡◌, drop, map, take}
use Rattle.std.specs.Prelude.{nat_eq}
use Rattle.std.specs.List.{AllByRecursion, IsDistinct}
use Rattle.compose_order.specs.Agreed.{in_turn}
use Rattle.compose_order.specs.Known.{AreThere, IsHeld, left_tree}
use Rattle.compose_order.proofs.order.in_turn.Given as goal

abbrev pub invariant-loop-number : goal.invariant-loop-number
invariant-loop-number l = record {
  there : AreThere l.slots (map left_tree l.fn.lefts.items);
  out : map left_tree l.out.items ≡ in_turn (map left_tree l.fn.lefts.items) (take l.number-index l.order);
  held : AllByRecursion (IsHeld l.slots) (drop l.number-index l.order);
  once : IsDistinct nat_eq (drop l.number-index l.order);
}
