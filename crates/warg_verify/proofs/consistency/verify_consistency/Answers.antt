use Rattle.std.proofs.Common.{◌∙◌, sym}
use Rattle.warg_verify.proofs.FaultLaws.{consistency_fault}
use Rattle.warg_verify.proofs.consistency.verify_consistency.Goals as goal

pub returns-clause-err : goal.returns-clause-err
returns-clause-err c =
    let lengths = c.args.lengths.now in
    let e = c.consistency.ensures in
    let found = c.in_ok-bundle.ensures.found in
    consistency_fault c.in_ok-bundle.bundle c.args.bundle.now.proof lengths.from lengths.to c.args.from_root.now c.args.to_root.now c.consistency.result
    found.0 (sym c.as_slice.ensures ∙ found.1)
    e.wrong_count.0 e.wrong_length.0 e.missing_hash.0 (λ root found is. (e.other_root root found).0 is) e.judged
