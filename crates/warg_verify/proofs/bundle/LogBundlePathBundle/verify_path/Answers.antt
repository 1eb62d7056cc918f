use Rattle.std.proofs.Common.{◌≡◌, List, ℕ, ◌∙◌, subst}
use Rattle.warg_proof.specs.Leaves.{log_entry}
use Rattle.warg_proof.specs.LogProofs.{ProvesInclusion}
use Rattle.warg_verify.proofs.FaultLaws.{log_path_fault}
use Rattle.warg_verify.proofs.bundle.LogBundlePathBundle.verify_path.Goals as goal

pub returns-clause-err : goal.returns-clause-err
returns-clause-err c =
    let log = c.args.self.now in
    let checkpoint = c.args.checkpoint.now in
    let leaf = c.args.leaf.now in
    let e = c.inclusion.ensures in
    let entry : c.as_slice.result.now ≡ log_entry leaf.log_id leaf.record_id = c.as_slice.ensures.value ∙ c.in_ok-entry.ensures in
    log_path_fault log checkpoint c.args.at c.args.index leaf c.inclusion.result e.wrong_count.0 e.wrong_length.0 e.wrong_leaf.0 e.missing_hash.0
    (λ root found is.
    let other = (e.other_root root found).0 is in
    (other.0, other.1, subst (λ (t : List ℕ). ProvesInclusion log c.args.at checkpoint.log_length c.args.index t found) entry other.2))
    e.judged.0
