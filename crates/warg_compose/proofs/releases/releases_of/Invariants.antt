use Rattle.std.proofs.Common.{map, take}
use Rattle.warg_plan.specs.View.{entry_view}
use Rattle.warg_compose.specs.Held.{AreReleases}
use Rattle.warg_compose.proofs.releases.releases_of.Given as goal

abbrev pub invariant-loop-entry : goal.invariant-loop-entry
invariant-loop-entry l = AreReleases l.releases (map entry_view (take l.entry-index l.entries))
