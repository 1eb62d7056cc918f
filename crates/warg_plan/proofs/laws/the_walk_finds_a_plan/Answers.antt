use Rattle.warg_plan.specs.PlanLaws.{walk_is_plan}
use Rattle.warg_plan.proofs.laws.the_walk_finds_a_plan.Goals as goal

pub returns : goal.returns
returns c = λ s f depth root es. walk_is_plan s f depth root es
