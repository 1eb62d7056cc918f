use Rattle.std.proofs.Common.{ap, ◌∙◌, arith}
use Rattle.std.proofs.lemmas.Result.{err_from_is_err_and}
use Rattle.warg_proof.specs.Reading.{log_at}
use Rattle.warg_proof.proofs.Bundles.{log_takes, log_again, only_memory, same_read}
use Rattle.warg_proof.proofs.log_bundle.LogBundle.decode.Goals as goal

pub returns-in_err-nodes-clause-only : goal.returns-in_err-nodes-clause-only
returns-in_err-nodes-clause-only c = λ bundle is text.
    let p = err_from_is_err_and c.from_residual.result c.from_residual.ensures.1 in
    rw (p.1, p.2) (only_memory c.in_err-nodes.field-0.0 (log_at c.args.bytes.now) bundle c.in_err-nodes.ensures (ap log_at text ∙ log_again bundle is))

pub invariant_of-result : goal.invariant_of-result
invariant_of-result c = (log_takes c.args.bytes.now _ (λ i. omega (arith, c.type_inv.bytes i)) c.in_ok-nodes.ensures).0

pub returns-clause-found : goal.returns-clause-found
returns-clause-found c = log_takes c.args.bytes.now _ (λ i. omega (arith, c.type_inv.bytes i)) c.in_ok-nodes.ensures

pub returns-clause-only : goal.returns-clause-only
returns-clause-only c = λ bundle is text. same_read (log_at c.args.bytes.now) _ bundle c.in_ok-nodes.ensures (ap log_at text ∙ log_again bundle is)
