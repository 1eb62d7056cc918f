-- The first entries of a registry's log.
use Rattle.std.proofs.Common.{◌≡◌, ◌≤◌, ◌∷◌, [], List, ℕ, zero, suc, ◌∙◌, ap, length, map, take, arith}
use Rattle.std.proofs.lemmas.List.{take-map, take-take, length-map}
use Rattle.sha2.specs.Sha256.{sha256}
use Rattle.warg_record.specs.Envelope.{Signed}
use Rattle.warg_proof.specs.Leaves.{log_entry}
use Rattle.warg_proof.specs.Merkle.{leaf_hash}
use Rattle.warg_prover.specs.Asked.{AreHashesOf}
use Rattle.warg_ledger.specs.Registry.{Registry, entry_texts}

at-most : {A : Type 0} (n : ℕ) (xs : List A) → length (take n xs) ≤ n
at-most zero xs = omega arith
at-most (suc n) [] = omega arith
at-most (suc n) (x ∷ xs) = let below = at-most n xs in omega (arith, below)

pub hashes-length : (entries hashes : List (List ℕ)) → AreHashesOf entries hashes → length hashes ≡ length entries
hashes-length entries hashes are = ap length are ∙ length-map entries leaf_hash

-- the front of the entries below a length is the entries below the lesser length
pub entries-front : (w : Registry) (n m : ℕ) → m ≤ length (entry_texts w n) → take m (entry_texts w n) ≡ entry_texts w m
entries-front w n m within =
    let text : List ℕ × Signed → List ℕ = λ e. log_entry e.0 (sha256 e.1.contents) in
    let same = length-map (take n w.entries) text in
    let most = at-most n w.entries in
    let below : m ≤ n = omega (arith, within, same, most) in
    take-map text m (take n w.entries) ∙ ap (map text) (take-take m n w.entries below)
