use Rattle.std.proofs.Common.{map, take}
use Rattle.compose_bundle.specs.Bundled.{content_in}
use Rattle.warg_plan.specs.View.{facts_view}
use Rattle.warg_bundle.specs.Lent.{AreLent}
use Rattle.warg_bundle.specs.View.{asked_view}
use Rattle.warg_bundle.proofs.bundle.lent.Given as goal

abbrev pub invariant-loop-release : goal.invariant-loop-release
invariant-loop-release l = AreLent (facts_view l.facts) (map asked_view (take l.release-index l.asked)) (content_in l.contents)
