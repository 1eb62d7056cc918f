use Rattle.std.proofs.Common.{◌≤◌, List, drop}
use Rattle.warg_exchange.specs.declared.exchange.Exchange.{Exchange}
use Rattle.warg_api.specs.Link.{Exchanges}
use Rattle.warg_api.specs.Download.{urls, Tried}
use Rattle.warg_api.proofs.download.find.Given as goal

abbrev pub invariant-loop-source : goal.invariant-loop-source
invariant-loop-source g l =
    (g.L.Link.faults l.initial.link ≤ g.L.Link.faults l.link)
    × ((xs : List Exchange) × Exchanges g.L.Link.Steps (g.L.Link.told l.initial.link) xs (g.L.Link.told l.link)
    × Tried (urls l.sources) (urls (drop l.source-index l.sources)) xs)
