use Rattle.std.specs.Option.{option_copied}
use Rattle.std.proofs.lemmas.Result.{IfErr-weaker}
use Rattle.warg_api.specs.Asking.{asker}
use Rattle.warg_fetch.proofs.ContentLaws.{kept_fetched, load_refused}
use Rattle.warg_fetch.proofs.content.fetch_content.Goals as goal

pub returns-in-Some-clause-fetched : goal.returns-in-Some-clause-fetched
returns-in-Some-clause-fetched g c = λ known k.
    kept_fetched _ c.args.digest.now g.L.Link.Steps _ _ known c.in-Some.bytes.items k (rw c.in-Some.is at c.in_ok-bytes.ensures.found)

pub returns-in-None-clause-cause : goal.returns-in-None-clause-cause
returns-in-None-clause-cause g c = IfErr-weaker c.download_content.result _ _
    (λ e h. load_refused (asker c.args.client.now (option_copied c.args.registry)) c.args.digest.now g.L.Link.Steps _ _ e _ _ _ _ c.load_content.ensures.never_falls (rw c.in-None.is at c.in_ok-bytes.ensures.found) h) c.download_content.ensures.fault
