use Rattle.std.proofs.Common.{inl, inr}
use Rattle.std.specs.Prelude.{option_copied}
use Rattle.std.proofs.lemmas.Result.{err_from_is_err_and}
use Rattle.warg_api.specs.Asking.{asker}
use Rattle.warg_api.proofs.client.Client.prove_log_consistency.Goals as goal

pub returns-in_err-bundle-clause-err : goal.returns-in_err-bundle-clause-err
returns-in_err-bundle-clause-err g c =
    let a = asker c.args.self.now (option_copied c.args.registry) in
    let asked = c.consistency_request-asked.ensures in
    let p = err_from_is_err_and c.from_residual.result c.from_residual.ensures.1 in
    rw (p.1, p.2) (inl (c.in_err-bundle.ensures.err a _ asked.value asked.bad_header))

pub returns-in-Ok-clause-ok : goal.returns-in-Ok-clause-ok
returns-in-Ok-clause-ok g c =
    let said = c.in_ok-bundle.ensures.ok _ c.consistency_request-asked.ensures.value in
    (said.0, said.1, (c.in_ok-bundle.bundle, said.2, c.in-Ok.ensures.ok))

pub returns-clause-err : goal.returns-clause-err
returns-clause-err g c =
    let said = c.in_ok-bundle.ensures.ok _ c.consistency_request-asked.ensures.value in
    inr (said.0, said.1, (c.in_ok-bundle.bundle, said.2, (c.in-Err.fault, c.consistency_error.ensures, c.in-Err.ensures.err)))
