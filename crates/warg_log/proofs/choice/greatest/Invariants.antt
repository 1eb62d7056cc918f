use Rattle.std.proofs.Common.{◌≡◌, map, take, fold, None, option_map, option_copied}
use Rattle.warg_log.specs.Choice.{better}
use Rattle.warg_log.specs.Places.{release_view}
use Rattle.warg_log.proofs.choice.greatest.Given as goal

abbrev pub invariant-loop-release : goal.invariant-loop-release
invariant-loop-release g l = option_map release_view (option_copied l.best) ≡ fold (better (g.T.ReleaseTest.passing l.test)) None (map release_view (take l.release-index l.releases))
