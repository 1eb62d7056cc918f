use Rattle.std.proofs.lemmas.Result.{err_from_is_err_and}
use Rattle.std.proofs.Common.{refl, inl, Result}
use Rattle.warg_names.specs.View.{import_tree}
use Rattle.warg_plan.specs.View.{facts_view}
use Rattle.warg_plan.specs.Walk.{Content, Facts, Stop}
use Rattle.warg_bundle.specs.Contents.{content_of}
use Rattle.warg_bundle.proofs.ContentLaws.{content_unknown}
use Rattle.warg_bundle.proofs.LessonLaws.{goes_on, has_joined, none_learnt, refused_by, unanswered}
use Rattle.warg_bundle.proofs.learning.learn_release.Goals as goal

pub loop-init : goal.loop-init
loop-init g c = none_learnt g.A.Learn.teaches g.A.Learn.Learns (λ f. content_of f (import_tree c.args.import.now)) (facts_view c.args.facts.now) _

pub returns-in_err-learn-in-Err-clause-refused : goal.returns-in_err-learn-in-Err-clause-refused
returns-in_err-learn-in-Err-clause-refused g c =
    let answer : Facts → Result Content Stop = λ f. content_of f (import_tree c.args.import.now) in
    let q = err_from_is_err_and c.from_residual.result c.from_residual.ensures.1 in
    let here = refused_by g.A.Learn.teaches g.A.Learn.Learns answer g.A.Learn.Refuses (facts_view c.loop.facts) _ _ c.in-Err.stop c.in_err-learn-in-Err.field-0.0 c.in-Err.ensures c.in_err-learn-in-Err.ensures.fault in
    rw (q.1, q.2) (unanswered g.A.Learn.teaches g.A.Learn.Learns answer g.A.Learn.Refuses (facts_view c.args.facts.now) (facts_view c.loop.facts) _ _ _ c.in_err-learn-in-Err.field-0.0 c.loop.invariant here)

pub loop-preserved : goal.loop-preserved
loop-preserved g c =
    let i = import_tree c.args.import.now in
    let answer : Facts → Result Content Stop = λ f. content_of f i in
    let learnt = c.in_ok-learn-in-Err.ensures.learnt in
    let step = goes_on g.A.Learn.teaches g.A.Learn.Learns answer (λ f stop e. content_unknown f i stop e) (facts_view c.loop.facts) _ _ _ c.in-Err.stop c.in-Err.ensures learnt.0 learnt.1 learnt.2 in
    has_joined g.A.Learn.teaches g.A.Learn.Learns answer (facts_view c.args.facts.now) (facts_view c.loop.facts) _ _ _ _ c.loop.invariant step

pub returns-clause-refused : goal.returns-clause-refused
returns-clause-refused g c = record { facts = facts_view c.loop.facts; between = _; learnt = c.loop.invariant; last = inl refl }
