use Rattle.std.proofs.Common.{◌≡◌, ◌++◌, drop}
use Rattle.compose_left.specs.Wiring.{shapes_of}
use Rattle.compose_left.specs.Origins.{brought_from}
use Rattle.compose_left.proofs.finding.all_brought.Given as goal

abbrev pub invariant-loop-instance : goal.invariant-loop-instance
invariant-loop-instance l = l.all.items ++ brought_from l.instance (shapes_of (drop l.instance l.shapes)) ≡ brought_from 0 (shapes_of l.shapes)
