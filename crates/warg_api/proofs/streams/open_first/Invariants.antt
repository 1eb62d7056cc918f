use Rattle.std.proofs.Common.{◌≤◌, drop}
use Rattle.warg_api.specs.Download.{urls}
use Rattle.warg_api.specs.Streams.{Passed}
use Rattle.warg_api.proofs.streams.open_first.Given as goal

abbrev pub invariant-loop-source : goal.invariant-loop-source
invariant-loop-source g l =
    (g.L.Link.faults l.initial.link ≤ g.L.Link.faults l.link)
    × Passed g.L.Link.Opens (urls l.sources) (g.L.Link.told l.initial.link) (urls (drop l.source-index l.sources)) (g.L.Link.told l.link)
