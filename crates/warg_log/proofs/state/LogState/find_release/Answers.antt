use Rattle.std.proofs.Common.{map, option_map, option_copied, ◌∙◌, ap}
use Rattle.semver.specs.Identifiers.{parts_of, comparator_view}
use Rattle.warg_log.specs.Choice.{is_candidate, greatest}
use Rattle.warg_log.specs.History.{releases_of}
use Rattle.warg_log.specs.Rules.{entries_of}
use Rattle.warg_log.proofs.ChoiceLaws.{greatest_is}
use Rattle.warg_log.proofs.state.LogState.find_release.Goals as goal

pub returns-clause-chosen : goal.returns-clause-chosen
returns-clause-chosen g c = λ log f.
    let passes = is_candidate (map comparator_view c.args.req.now.comparators.items) (option_map parts_of (option_copied c.args.exact)) (option_copied c.args.digest) in
    let found = c.greatest.ensures ∙ ap (greatest passes) (c.as_slice.ensures ∙ f.agrees.releases) in
    rw found (greatest_is passes (releases_of (entries_of log)))
