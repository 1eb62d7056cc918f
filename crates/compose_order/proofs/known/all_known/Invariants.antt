use Rattle.std.proofs.Common.{◌≡◌, map, take}
use Rattle.std.specs.List.{AllByRecursion}
use Rattle.compose_order.specs.Known.{FindsImports, IsKnown, known_left, left_tree}
use Rattle.compose_order.proofs.known.all_known.Given as goal

abbrev pub invariant-loop-number : goal.invariant-loop-number
invariant-loop-number l = record {
  lefts : map known_left l.list.items ≡ map left_tree (take l.number l.lefts);
  each : AllByRecursion IsKnown l.list.items;
  places : FindsImports l.places (map left_tree (take l.number l.lefts));
}
