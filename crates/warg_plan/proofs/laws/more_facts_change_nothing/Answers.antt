use Rattle.warg_plan.specs.PlanLaws.{walk_below}
use Rattle.warg_plan.proofs.laws.more_facts_change_nothing.Goals as goal

pub returns : goal.returns
returns c = λ s less more depth root ext. walk_below s less more ext depth root
