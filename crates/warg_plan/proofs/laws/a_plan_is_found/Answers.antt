use Rattle.warg_plan.specs.PlanLaws.{plan_found}
use Rattle.warg_plan.proofs.laws.a_plan_is_found.Goals as goal

pub returns : goal.returns
returns c = λ s less more depth root es ext plan le. plan_found s less more ext root es plan depth le
