use Rattle.std.proofs.Common.{◌≡◌, map, take}
use Rattle.warg_plan.specs.Walk as spec
use Rattle.warg_plan.specs.Found.{found_keys}
use Rattle.warg_plan.specs.Steps.{wires_view}
use Rattle.warg_plan.specs.View.{named_view}
use Rattle.warg_plan.proofs.walk.arguments.Given as goal

abbrev pub invariant-loop-name : goal.invariant-loop-name
invariant-loop-name l = map named_view l.arguments.items ≡ spec.arguments (found_keys l.entries.entries) (wires_view (take l.name-index l.wires))
