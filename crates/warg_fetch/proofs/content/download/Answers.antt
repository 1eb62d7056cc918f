use Rattle.std.proofs.Common.{sym, ◌∙◌}
use Rattle.std.proofs.lemmas.Result.{err_from_is_err_and}
use Rattle.std.specs.Option.{option_copied}
use Rattle.warg_api.specs.Asking.{asker}
use Rattle.warg_session.specs.RecordingLaws.{all_kept}
use Rattle.warg_fetch.proofs.ContentLaws.{undownloaded}
use Rattle.warg_fetch.proofs.content.download.Goals as goal

pub returns-in_err-downloaded-clause-fault : goal.returns-in_err-downloaded-clause-fault
returns-in_err-downloaded-clause-fault g c =
    let q = err_from_is_err_and c.from_residual.result c.from_residual.ensures.1 in
    rw (q.1, q.2) (undownloaded (asker c.args.client.now (option_copied c.args.registry)) c.args.digest.now g.L.Link.Steps _ _ c.in_err-downloaded.field-0.0 (sym c.is_whole.ensures ∙ c.if-not-is_whole.false) c.in_err-downloaded.ensures.err)

pub returns-clause-downloaded : goal.returns-clause-downloaded
returns-clause-downloaded g c =
    let got = c.in_ok-downloaded.ensures.ok in
    record { exchanges = got.0; kept = all_kept g.L.Link.Steps _ _ got.0 got.1 (sym c.is_whole.ensures ∙ c.if-not-is_whole.false); gets = got.2 }
