use Rattle.warg_plan.specs.View.{facts_view, log_view}
use Rattle.warg_search.proofs.SearchSteps.{log_step}
use Rattle.warg_search.proofs.plan.learn_log.Goals as goal

pub returns-in-Ok-add_log-clause-learnt : goal.returns-in-Ok-add_log-clause-learnt
returns-in-Ok-add_log-clause-learnt g c =
    let learnt = c.in-Ok.ensures.learnt in
    log_step g.A.Learn.teaches g.A.Learn.Learns _ _ (facts_view c.args.facts.now) (facts_view c.add_log.new.self) c.args.name (log_view c.in-Ok.releases) learnt.0 learnt.1 learnt.2 c.in-Ok-add_log.ensures.added
