use Rattle.std.proofs.Common.{take}
use Rattle.warg_plan.specs.View.{facts_view}
use Rattle.warg_plan.specs.Walk.{nothing_known}
use Rattle.warg_bundle.specs.View.{imports_of}
use Rattle.warg_bundle.proofs.LessonLaws.{IsKnownFront}
use Rattle.warg_bundle.proofs.learning.learn_releases.Given as goal

abbrev pub invariant-loop-release : goal.invariant-loop-release
invariant-loop-release g l =
    IsKnownFront g.A.Learn.teaches g.A.Learn.Learns (imports_of l.asked) (imports_of (take l.release-index l.asked)) nothing_known (g.A.Learn.told l.fn.learner) (facts_view l.facts) (g.A.Learn.told l.learner)
