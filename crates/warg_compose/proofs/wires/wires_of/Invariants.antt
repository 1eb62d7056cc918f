use Rattle.std.proofs.Common.{◌≡◌, map, take}
use Rattle.warg_compose.specs.Composed.{wires_from}
use Rattle.warg_plan.specs.View.{entry_view}
use Rattle.warg_compose.proofs.wires.wires_of.Given as goal

abbrev pub invariant-loop-target : goal.invariant-loop-target
invariant-loop-target l = l.wires.items ≡ wires_from 0 (map entry_view (take l.target l.entries))
