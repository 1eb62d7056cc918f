use Rattle.std.proofs.Common.{◌≡◌, ℕ, List, None, map, take}
use Rattle.warg_plan.specs.declared.plan.PlanArg.{PlanArg}
use Rattle.warg_compose.specs.Open.{open_among}
use Rattle.warg_plan.specs.View.{arg_view}
use Rattle.warg_compose.proofs.open.open_among.Given as goal

abbrev pub invariant-loop-name : goal.invariant-loop-name
invariant-loop-name l = open_among (map (λ (a : List ℕ × PlanArg). (a.0, arg_view a.1)) (take l.name-index l.arguments)) ≡ None
