use Rattle.std.proofs.Common.{◌≡◌, List, ℕ, ◌∙◌, subst}
use Rattle.warg_proof.specs.Leaves.{map_value}
use Rattle.warg_proof.specs.MapProofs.{ProvesValue}
use Rattle.warg_verify.proofs.FaultLaws.{map_path_fault}
use Rattle.warg_verify.proofs.bundle.MapBundlePathBundle.verify_path.Goals as goal

pub returns-clause-err : goal.returns-clause-err
returns-clause-err c =
    let map = c.args.self.now in
    let leaf = c.args.leaf.now in
    let e = c.inclusion.ensures in
    let value : c.as_slice.result.now ≡ map_value leaf.record_id = c.as_slice.ensures.value ∙ c.in_ok-value.ensures in
    map_path_fault map c.args.checkpoint.now c.args.at c.args._index leaf c.inclusion.result e.wrong_count.0
    (λ root found is.
    let other = (e.other_root root found).0 is in
    (other.0, other.1, subst (λ (t : List ℕ). ProvesValue map c.args.at leaf.log_id t found) value other.2))
    e.judged
