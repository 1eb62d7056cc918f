use Rattle.std.proofs.Common.{refl}
use Rattle.warg_search.proofs.SearchSteps.{told_by}
use Rattle.warg_search.proofs.plan.learn.Goals as goal

pub returns-in_default-clause-fault : goal.returns-in_default-clause-fault
returns-in_default-clause-fault g c =
    let told = told_by c.args.stop c.in_default.not-Memory c.in_default.not-NeedsLog c.in_default.not-NeedsContent in
    (told.0, told.1, told.2, refl, refl)
