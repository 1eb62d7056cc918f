use Rattle.std.proofs.Common.{◌≡◌, map, take}
use Rattle.warg_log.specs.Places.{release_view}
use Rattle.warg_learn.proofs.log.copies_of.Given as goal

abbrev pub invariant-loop-release : goal.invariant-loop-release
invariant-loop-release l = map release_view l.copies.items ≡ map release_view (take l.release-index l.releases)
