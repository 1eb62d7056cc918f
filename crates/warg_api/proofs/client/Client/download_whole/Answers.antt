use Rattle.std.proofs.Common.{List, ℕ, Err, inl, inr, refl, sym, ap, subst}
use Rattle.std.specs.Prelude.{option_copied}
use Rattle.warg_exchange.specs.declared.exchange.Exchange.{Exchange}
use Rattle.warg_exchange.specs.Views.{sources_view}
use Rattle.warg_api.specs.Asking.{asker}
use Rattle.warg_api.specs.Link.{Exchanges}
use Rattle.warg_api.specs.Download.{urls, Found, Downloads}
use Rattle.warg_api.proofs.DownloadLaws.{downloads, all_fail, gets_next, begins}
use Rattle.warg_api.proofs.client.Client.download_whole.Goals as goal

pub returns-in-Ok-Some-clause-ok : goal.returns-in-Ok-Some-clause-ok
returns-in-Ok-Some-clause-ok g c =
    let said = c.in_ok-sources.ensures.ok in
    let a = asker c.args.self.now (option_copied c.args.registry) in
    let found = subst (λ o. (xs : List Exchange) × Exchanges g.L.Link.Steps (g.L.Link.told c.content_sources.new.link) xs (g.L.Link.told c.find.new.link) × Found (urls c.listed.result.now) xs o) c.in-Ok-Some.field-0-is c.in-Ok-Some.ensures.ok in
    let got = downloads g.L.Link.Steps (g.L.Link.told c.args.link.now) (g.L.Link.told c.content_sources.new.link) (g.L.Link.told c.find.new.link) a c.args.digest.now said.0 said.1
    (sources_view c.in_ok-sources.sources) said.2 (urls c.listed.result.now) (sym c.listed.ensures) c.in-Ok-Some.body found in
    subst (λ (bytes : List ℕ). (xs : List Exchange) × Exchanges g.L.Link.Steps (g.L.Link.told c.args.link.now) xs (g.L.Link.told c.find.new.link) × Downloads a c.args.digest.now xs bytes)
    (sym c.into_vec.ensures) got

pub returns-in-Ok-None-clause-err : goal.returns-in-Ok-None-clause-err
returns-in-Ok-None-clause-err g c =
    let said = c.in_ok-sources.ensures.ok in
    let a = asker c.args.self.now (option_copied c.args.registry) in
    let none = subst (λ o. (xs : List Exchange) × Exchanges g.L.Link.Steps (g.L.Link.told c.content_sources.new.link) xs (g.L.Link.told c.find.new.link) × Found (urls c.listed.result.now) xs o) c.in-Ok-None.field-0-is c.in-Ok-None.ensures.ok in
    let failed = all_fail g.L.Link.Steps (g.L.Link.told c.args.link.now) (g.L.Link.told c.content_sources.new.link) (g.L.Link.told c.find.new.link) a c.args.digest.now said.0 said.1
    (sources_view c.in_ok-sources.sources) said.2 (urls c.listed.result.now) (sym c.listed.ensures) none in
    inr (inl (refl, failed.0, failed.1, failed.2))

pub returns-in-Err-Failed-clause-err : goal.returns-in-Err-Failed-clause-err
returns-in-Err-Failed-clause-err g c =
    let said = c.in_ok-sources.ensures.ok in
    let a = asker c.args.self.now (option_copied c.args.registry) in
    let next = gets_next g.L.Link.Steps (g.L.Link.told c.args.link.now) (g.L.Link.told c.content_sources.new.link) (g.L.Link.told c.find.new.link) a c.args.digest.now said.0 said.1
    (sources_view c.in_ok-sources.sources) said.2 (urls c.listed.result.now) (sym c.listed.ensures) (c.in-Err-Failed.ensures.failed (ap Err c.in-Err-Failed.field-0-is)).1 in
    inr (inr (inl (refl, next.0, next.1, next.2, next.3, next.4, next.5)))

pub returns-clause-err : goal.returns-clause-err
returns-clause-err g c =
    let said = c.in_ok-sources.ensures.ok in
    let a = asker c.args.self.now (option_copied c.args.registry) in
    let begun = begins g.L.Link.Steps (g.L.Link.told c.args.link.now) (g.L.Link.told c.content_sources.new.link) (g.L.Link.told c.find.new.link) a c.args.digest.now said.0 said.1
    (sources_view c.in_ok-sources.sources) said.2 (urls c.listed.result.now) (sym c.listed.ensures) (c.in-Err-Memory.ensures.memory (ap Err c.in-Err-Memory.field-0-is)) in
    inr (inr (inr (refl, begun.0, begun.1, begun.2)))
