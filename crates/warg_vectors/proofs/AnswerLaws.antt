-- Laws of what is answered.
use Rattle.std.proofs.Common.{◌≡◌, ◌≤◌, ◌∙◌, ℕ, length, take}
use Rattle.std.proofs.lemmas.List.{length-map, length-take-le}
use Rattle.sha2.specs.Sha256.{sha256}
use Rattle.warg_proof.specs.Leaves.{log_entry}
use Rattle.warg_ledger.specs.Registry.{Registry, entry_texts}

-- there are as many entries below a length as that
pub entries-length : (w : Registry) (n : ℕ) → n ≤ length w.entries → length (entry_texts w n) ≡ n
entries-length w n le = length-map (take n w.entries) (λ e. log_entry e.0 (sha256 e.1.contents)) ∙ length-take-le n w.entries le
