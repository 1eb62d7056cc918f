use Rattle.warg_plan.specs.View.{content_view, facts_view}
use Rattle.warg_search.proofs.SearchSteps.{content_step}
use Rattle.warg_search.proofs.plan.learn_content.Goals as goal

pub returns-in-Ok-add_content-clause-learnt : goal.returns-in-Ok-add_content-clause-learnt
returns-in-Ok-add_content-clause-learnt g c =
    let learnt = c.in-Ok.ensures.learnt in
    content_step g.A.Learn.teaches g.A.Learn.Learns _ _ (facts_view c.args.facts.now) (facts_view c.add_content.new.self) c.args.name c.args.digest (content_view c.in-Ok.content) learnt.0 learnt.1 learnt.2 c.in-Ok-add_content.ensures.added
