use Rattle.std.proofs.Common.{List, drop, suc, subst, sym, take}
use Rattle.std.proofs.lemmas.Result.{err_from_is_err_and}
use Rattle.warg_names.specs.Import.{ImportTree}
use Rattle.warg_names.specs.View.{import_tree}
use Rattle.warg_plan.specs.View.{facts_view}
use Rattle.warg_plan.specs.Walk.{nothing_known}
use Rattle.warg_bundle.specs.View.{imports_of}
use Rattle.warg_bundle.proofs.LessonLaws.{IsKnownFront, front_more, front_none, front_refused, imports_more, imports_split}
use Rattle.warg_bundle.proofs.learning.learn_releases.Goals as goal

pub loop-release-init : goal.loop-release-init
loop-release-init g c = front_none g.A.Learn.teaches g.A.Learn.Learns (imports_of c.args.asked.now) nothing_known (facts_view c.args.facts.now) _ c.requires

pub loop-release-preserved : goal.loop-release-preserved
loop-release-preserved g c =
    let asked = c.args.asked.now in
    let at = c.loop-release.release-index in
    let release = c.release-item.result in
    let learnt = c.in_ok-learn_release.ensures.learnt in
    subst (λ (front : List ImportTree). IsKnownFront g.A.Learn.teaches g.A.Learn.Learns (imports_of asked) front nothing_known (g.A.Learn.told c.args.learner.now) (facts_view c.learn_release.new.facts) (g.A.Learn.told c.learn_release.new.learner)) (sym (imports_more asked at release c.loop-release-test.true c.release-item.is))
    (front_more g.A.Learn.teaches g.A.Learn.Learns (imports_of asked) (imports_of (take at asked)) (imports_of (drop (suc at) asked)) (import_tree release.import) nothing_known (facts_view c.loop-release.facts) _ _ _ _ learnt.0
    (imports_split asked at release c.loop-release-test.true c.release-item.is) c.loop-release.invariant learnt.1)

pub returns-in_err-learn_release-clause-refused : goal.returns-in_err-learn_release-clause-refused
returns-in_err-learn_release-clause-refused g c =
    let asked = c.args.asked.now in
    let at = c.loop-release.release-index in
    let release = c.release-item.result in
    let q = err_from_is_err_and c.from_residual.result c.from_residual.ensures.1 in
    rw (q.1, q.2) (front_refused g.A.Learn.teaches g.A.Learn.Learns g.A.Learn.Refuses (imports_of asked) (imports_of (take at asked)) (imports_of (drop (suc at) asked)) (import_tree release.import) nothing_known (facts_view c.loop-release.facts) _ _ _ c.in_err-learn_release.field-0.0
    (imports_split asked at release c.loop-release-test.true c.release-item.is) c.loop-release.invariant c.in_err-learn_release.ensures.refused)
