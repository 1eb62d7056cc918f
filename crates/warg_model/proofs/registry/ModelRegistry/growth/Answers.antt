use Rattle.std.proofs.Common.{◌≡◌, ◌+◌, ◌∷◌, ◌++◌, [], List, ℕ, rules, sym, ◌∙◌, ap, subst, length}
use Rattle.std.proofs.lemmas.List.{length-map}
use Rattle.sha2.specs.Sha256.{sha256}
use Rattle.warg_proof.specs.LogTree.{root}
use Rattle.warg_proof.specs.MapTree.{map_root}
use Rattle.warg_exchange.specs.declared.checkpoint.Checkpoint.{Checkpoint}
use Rattle.warg_exchange.specs.declared.checkpoint.SignedCheckpoint.{SignedCheckpoint}
use Rattle.warg_ledger.specs.Registry.{entry_texts}
use Rattle.warg_model.specs.Held.{registry_of, checkpoint_by, present}
use Rattle.warg_model.specs.Hashes.{AreHashesBelow}
use Rattle.warg_model.specs.State.{held}
use Rattle.warg_model.proofs.GrowLaws.{some-is, present-made}
use Rattle.warg_model.proofs.registry.ModelRegistry.growth.Goals as goal

pub returns : goal.returns
returns c =
    let h = held c.args.self.now in
    let w = registry_of h in
    let n = c.len-length.result + 1 in
    let checkpoint : Checkpoint = record { log_length = n; log_root = c.in-Some.log_root; map_root = c.map_root.result; timestamp = n } in
    let signed : SignedCheckpoint = record { contents = checkpoint; key_id = c.id.result; signature = c.in_ok-try_clone.field-0 } in
    let all : n ≡ length w.entries = search (rules, length-map) in
    let log_root : c.in-Some.log_root ≡ root (entry_texts w n) = some-is c.in-Some.log_root (root (entry_texts w n)) (sym c.in-Some.is ∙ c.log_root.ensures (entry_texts w n) c.in_ok-hashes.ensures.log) in
    let is : checkpoint ≡ present h = present-made h n c.in-Some.log_root c.map_root.result all log_root (c.map_root.ensures ∙ ap map_root c.in_ok-hashes.ensures.map) in
    let by_key : signed ≡ checkpoint_by h.key checkpoint =
    ap (λ (i : List ℕ). record { contents = checkpoint; key_id = i; signature = c.in_ok-try_clone.field-0 }) c.id.ensures
    ∙ ap (λ (t : List ℕ). record { contents = checkpoint; key_id = sha256 h.key.key; signature = t }) c.in_ok-try_clone.ensures in
    record {
      checkpoints = c.in_ok-push.ensures.items ∙ ap (λ (l : List Checkpoint). l ++ checkpoint ∷ []) (c.in_ok-checkpoints.ensures.items ∙ c.as_slice.ensures.value) ∙ ap (λ (d : Checkpoint). h.checkpoints ++ d ∷ []) is;
      latest = by_key ∙ ap (λ (d : Checkpoint). checkpoint_by h.key d) is;
      hashes = subst (λ (m : ℕ). AreHashesBelow w m c.in_ok-hashes.hashes) all c.in_ok-hashes.ensures;
    }
