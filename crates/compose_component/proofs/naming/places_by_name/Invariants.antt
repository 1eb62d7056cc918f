use Rattle.std.proofs.Common.{◌≤◌, map, length, drop}
use Rattle.compose_component.proofs.NameLaws.{FindsFrom}
use Rattle.compose_component.proofs.naming.places_by_name.Given as goal

abbrev pub invariant-loop-left : goal.invariant-loop-left
invariant-loop-left g l = record {
  within : l.left ≤ length l.named;
  found : FindsFrom l.left l.places (map g.T.Named.name (drop l.left l.named));
}

abbrev pub decreases-loop-left : goal.decreases-loop-left
decreases-loop-left g l = l.left
