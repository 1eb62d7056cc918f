use Rattle.std.proofs.Common.{ap, ◌∙◌, arith}
use Rattle.std.proofs.lemmas.Result.{err_from_is_err_and}
use Rattle.warg_proof.specs.Reading.{map_at}
use Rattle.warg_proof.proofs.Bundles.{map_takes, map_again, only_memory, same_read}
use Rattle.warg_proof.proofs.map_bundle.MapBundle.decode.Goals as goal

pub returns-in_err-paths-clause-only : goal.returns-in_err-paths-clause-only
returns-in_err-paths-clause-only c = λ bundle is text.
    let p = err_from_is_err_and c.from_residual.result c.from_residual.ensures.1 in
    rw (p.1, p.2) (only_memory c.in_err-paths.field-0.0 (map_at c.args.bytes.now) bundle c.in_err-paths.ensures (ap map_at text ∙ map_again bundle is))

pub invariant_of-result : goal.invariant_of-result
invariant_of-result c = (map_takes c.args.bytes.now _ (λ i. omega (arith, c.type_inv.bytes i)) c.in_ok-paths.ensures).0

pub returns-clause-found : goal.returns-clause-found
returns-clause-found c = map_takes c.args.bytes.now _ (λ i. omega (arith, c.type_inv.bytes i)) c.in_ok-paths.ensures

pub returns-clause-only : goal.returns-clause-only
returns-clause-only c = λ bundle is text. same_read (map_at c.args.bytes.now) _ bundle c.in_ok-paths.ensures (ap map_at text ∙ map_again bundle is)
