use Rattle.std.proofs.Common.{◌∙◌}
use Rattle.warg_plan.proofs.FoundSteps.{any_open}
use Rattle.warg_plan.proofs.walk.is_open.Goals as goal

pub returns : goal.returns
returns c = c.contains.ensures ∙ any_open c.args.key.now c.args.walk.now.«open».keys
