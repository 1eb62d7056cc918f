use Rattle.std.proofs.Common.{◌≡◌, map, take, fold, None, option_map, option_copied}
use Rattle.semver.specs.Identifiers.{parts_of}
use Rattle.warg_log.specs.Choice.{better, is_candidate}
use Rattle.warg_log.specs.Places.{release_view}
use Rattle.warg_names.specs.View.{requirement_view}
use Rattle.warg_plan.proofs.choice.greatest.Given as goal

abbrev pub invariant-loop-release : goal.invariant-loop-release
invariant-loop-release l = option_map release_view (option_copied l.best) ≡ fold (better (is_candidate (requirement_view l.import.req) (option_map parts_of l.import.exact) (option_copied l.digest))) None (map release_view (take l.release-index l.releases))
