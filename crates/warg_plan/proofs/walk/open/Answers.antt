use Rattle.std.proofs.Common.{◌∙◌, ap, map, reverse}
use Rattle.warg_plan.specs.View.{key_view}
use Rattle.warg_plan.proofs.FoundSteps.{opens}
use Rattle.warg_plan.proofs.walk.open.Goals as goal

pub returns-clause-open : goal.returns-clause-open
returns-clause-open c = λ free. ap (λ ks. reverse (map key_view ks)) c.in_ok-insert.ensures.keys ∙ opens c.args.walk.now.«open».keys c.args.key.now _ c.in_ok-try_clone.ensures free
