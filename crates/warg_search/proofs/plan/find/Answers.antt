use Rattle.std.proofs.Common.{[], subst, sym}
use Rattle.std.proofs.lemmas.Result.{err_from_is_err_and}
use Rattle.warg_plan.specs.Onward.{IsOnTheWay}
use Rattle.warg_plan.specs.OnwardLaws.{begins}
use Rattle.warg_plan.specs.View.{facts_view, key_view}
use Rattle.warg_search.specs.Search.{wanted_at}
use Rattle.warg_search.specs.SearchLaws.{none_learnt}
use Rattle.warg_search.proofs.SearchSteps.{goes_on, refused_by, walks_on}
use Rattle.warg_search.proofs.plan.find.Goals as goal

pub loop-init : goal.loop-init
loop-init g c =
    let w = wanted_at c.args.config.now (key_view c.args.root.now) in
    record {
      learns = record { parts = []; are = none_learnt _ _ _ _ _; knows = c.requires.facts };
      walks = subst (IsOnTheWay w.settings (facts_view c.args.facts.now) w.depth (key_view c.args.root.now)) (sym c.requires.walk) (begins _ _ _ _);
    }

pub returns-in_err-learn-in-Err-clause-refused : goal.returns-in_err-learn-in-Err-clause-refused
returns-in_err-learn-in-Err-clause-refused g c =
    let w = wanted_at c.args.config.now (key_view c.args.root.now) in
    let q = err_from_is_err_and c.from_residual.result c.from_residual.ensures.1 in
    let stops = c.in-Err.ensures.gives c.loop.invariant.walks in
    rw (q.1, q.2) (refused_by g.A.Learn.teaches w g.A.Learn.Learns _ g.A.Learn.Refuses _ _ (facts_view c.loop.facts) c.in-Err.stop c.in_err-learn-in-Err.field-0.0 c.loop.invariant.learns stops c.in_err-learn-in-Err.ensures.fault)

pub loop-preserved : goal.loop-preserved
loop-preserved g c =
    let w = wanted_at c.args.config.now (key_view c.args.root.now) in
    let facts = facts_view c.loop.facts in
    let stops = c.in-Err.ensures.gives c.loop.invariant.walks in
    let learnt = c.in_ok-learn-in-Err.ensures.learnt in
    record {
      learns = goes_on g.A.Learn.teaches w g.A.Learn.Learns _ _ _ facts _ c.in-Err.stop c.loop.invariant.learns stops learnt.0 learnt.1 learnt.2;
      walks = walks_on g.A.Learn.teaches w g.A.Learn.Learns _ _ facts _ (key_view c.args.root.now) _ c.in-Err.stop stops (c.in-Err.ensures.goes_on c.loop.invariant.walks) learnt.0 learnt.1 learnt.2;
    }
