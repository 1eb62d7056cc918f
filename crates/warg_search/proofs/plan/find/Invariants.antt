use Rattle.warg_plan.specs.Found.{found_entries}
use Rattle.warg_plan.specs.Onward.{IsOnTheWay}
use Rattle.warg_plan.specs.View.{facts_view, key_view}
use Rattle.warg_search.specs.Search.{IsUnderWay, wanted_at}
use Rattle.warg_search.proofs.plan.find.Given as goal

abbrev pub invariant-loop : goal.invariant-loop
invariant-loop g l = record {
  learns : IsUnderWay g.A.Learn.teaches (wanted_at l.config (key_view l.root)) g.A.Learn.Learns (g.A.Learn.told l.fn.learner) (g.A.Learn.told l.learner) (facts_view l.facts);
  walks : IsOnTheWay (wanted_at l.config (key_view l.root)).settings (facts_view l.facts) (wanted_at l.config (key_view l.root)).depth (key_view l.root) (found_entries l.walk);
}
