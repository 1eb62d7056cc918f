use Rattle.warg_plan.specs.CauseLaws.{asked_unknown}
use Rattle.warg_plan.proofs.laws.what_is_asked_for_is_not_known.Goals as goal

pub returns : goal.returns
returns c = asked_unknown
