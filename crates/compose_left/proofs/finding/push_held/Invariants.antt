use Rattle.std.proofs.Common.{◌≡◌, ◌++◌, map, take}
use Rattle.compose_left.specs.Origins.{held_at}
use Rattle.compose_left.proofs.finding.push_held.Given as goal

abbrev pub invariant-loop-spot : goal.invariant-loop-spot
invariant-loop-spot l = l.all.items ≡ l.fn.all.items ++ map (held_at l.instance) (take l.spot-index l.spots)
