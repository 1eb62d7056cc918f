use Rattle.std.proofs.Common.{◌≡◌, take}
use Rattle.warg_log.specs.Places.{release_views}
use Rattle.warg_log.proofs.releases.Releases.try_clone.Given as goal

abbrev pub invariant-loop-release : goal.invariant-loop-release
invariant-loop-release l = l.copies ≡ release_views (take l.release-index l.releases)
