use Rattle.std.proofs.Common.{List, ℕ, inl, inr, subst}
use Rattle.std.specs.Prelude.{option_copied}
use Rattle.std.proofs.lemmas.Result.{err_from_is_err_and}
use Rattle.warg_verify.specs.Shown.{Includes}
use Rattle.warg_verify.specs.Faults.{IsInclusionFault}
use Rattle.warg_api.specs.Asking.{asker}
use Rattle.warg_api.proofs.client.Client.prove_inclusion.Goals as goal

pub returns-in_err-bundles-clause-err : goal.returns-in_err-bundles-clause-err
returns-in_err-bundles-clause-err g c =
    let a = asker c.args.self.now (option_copied c.args.registry) in
    let asked = c.inclusion_request-asked.ensures in
    let p = err_from_is_err_and c.from_residual.result c.from_residual.ensures.1 in
    rw (p.1, p.2) (inl (c.in_err-bundles.ensures.err a _ asked.value asked.bad_header))

pub returns-in-Ok-clause-ok : goal.returns-in-Ok-clause-ok
returns-in-Ok-clause-ok g c =
    let said = c.in_ok-bundles.ensures.ok _ c.inclusion_request-asked.ensures.value in
    let bundles = c.in_ok-bundles.bundles in
    let includes = subst (λ (is : List ℕ). Includes c.args.checkpoint.now is c.args.leafs.now bundles) c.as_slice.ensures c.in-Ok.ensures.ok in
    (said.0, said.1, (bundles, said.2, includes))

pub returns-clause-err : goal.returns-clause-err
returns-clause-err g c =
    let said = c.in_ok-bundles.ensures.ok _ c.inclusion_request-asked.ensures.value in
    let bundles = c.in_ok-bundles.bundles in
    let fails = subst (λ (is : List ℕ). IsInclusionFault c.args.checkpoint.now is c.args.leafs.now bundles c.in-Err.fault) c.as_slice.ensures c.in-Err.ensures.err in
    inr (said.0, said.1, (bundles, said.2, (c.in-Err.fault, c.inclusion_error.ensures, fails)))
