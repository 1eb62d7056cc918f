use Rattle.std.proofs.Common.{◌≡◌, ◌++◌, ℕ, List, map, take}
use Rattle.warg_plan.specs.declared.plan.PlanArg.{PlanArg}
use Rattle.warg_compose.specs.Composed.{wires_to}
use Rattle.warg_plan.specs.View.{arg_view}
use Rattle.warg_compose.proofs.wires.add_wires.Given as goal

abbrev pub invariant-loop-import : goal.invariant-loop-import
invariant-loop-import l = l.wires.items ≡ l.fn.wires.items ++ wires_to l.target 0 (map (λ (a : List ℕ × PlanArg). (a.0, arg_view a.1)) (take l.import l.arguments))
