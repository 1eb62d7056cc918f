use Rattle.warg_names.specs.View.{import_tree}
use Rattle.warg_plan.specs.View.{facts_view}
use Rattle.warg_bundle.specs.Contents.{HasLearnt, content_of}
use Rattle.warg_bundle.proofs.learning.learn_release.Given as goal

abbrev pub invariant-loop : goal.invariant-loop
invariant-loop g l =
    HasLearnt g.A.Learn.teaches (λ f. content_of f (import_tree l.import)) g.A.Learn.Learns (facts_view l.fn.facts) (g.A.Learn.told l.fn.learner) (facts_view l.facts) (g.A.Learn.told l.learner)
