use Rattle.std.proofs.Common.{◌≤◌, List, ℕ, ◌∙◌, subst, length}
use Rattle.warg_prover.specs.Asked.{IsConsistencyBundle}
use Rattle.warg_ledger.specs.Registry.{entry_texts}
use Rattle.warg_model.proofs.FrontLaws.{hashes-length, entries-front}
use Rattle.warg_model.proofs.hashes.RegistryHashes.consistency.Goals as goal

pub returns-clause-shown : goal.returns-clause-shown
returns-clause-shown c w n are =
    let bundle = c.in_ok-proof.ensures.bundle in
    let entries = entry_texts w n in
    let within : c.args.new ≤ length entries = subst (λ (k : ℕ). c.args.new ≤ k) (hashes-length entries c.args.self.now.log are.log) c.in_ok-proof.ensures.there.2 in
    record {
      log = bundle.0;
      log_bytes = c.from_vec.ensures ∙ bundle.1;
      grows = subst (λ (l : List (List ℕ)). IsConsistencyBundle bundle.0 l c.args.old) (entries-front w n c.args.new within) (bundle.2 entries are.log);
    }
