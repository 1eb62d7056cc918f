use Rattle.warg_plan.specs.CauseLaws.{walk_cause}
use Rattle.warg_plan.proofs.laws.each_stop_has_its_cause.Goals as goal

pub returns : goal.returns
returns c = λ s f depth root stop. walk_cause s f root depth stop
