-- The hashes of a registry's log and of its map are those of its records.
use Rattle.std.proofs.Common.{◌≡◌, ◌∷◌, ◌++◌, [], List, refl, sym, ◌∙◌, ap, map, reverse, ℕ, append_assoc, append-nil}
use Rattle.std.proofs.lemmas.List.{reverse-append, map-append}
use Rattle.sha2.specs.Sha256.{sha256}
use Rattle.warg_record.specs.Envelope.{Signed}
use Rattle.warg_proof.specs.declared.leaf.LogLeaf.{LogLeaf}
use Rattle.warg_proof.specs.Leaves.{entry_hash, log_entry, map_value}
use Rattle.warg_proof.specs.MapProofs.{log_key}
use Rattle.warg_proof.specs.MapTree.{Entries}
use Rattle.warg_proof.specs.Merkle.{leaf_hash}
use Rattle.warg_prover.specs.Maps.{map_of}
use Rattle.warg_ledger.specs.Registry.{heads_before}
use Rattle.warg_model.specs.Hashes.{leaf_of}

pub log-hashes : (entries : List (List ℕ × Signed)) → map entry_hash (map leaf_of entries) ≡ map leaf_hash (map (λ e. log_entry e.0 (sha256 e.1.contents)) entries)
log-hashes [] = refl
log-hashes (e ∷ entries) = ap (λ (l : List (List ℕ)). entry_hash (leaf_of e) ∷ l) (log-hashes entries)

member-of : LogLeaf → List ℕ × List ℕ
member-of leaf = (log_key leaf.log_id, map_value leaf.record_id)

heads-in-front : (entries : List (List ℕ × Signed)) (others : Entries) → heads_before entries others ≡ map_of (reverse (map leaf_of entries)) ++ others
unfolding heads_before member-of
heads-in-front [] others = refl
heads-in-front (e ∷ entries) others =
    let leaf = leaf_of e in
    let rest = reverse (map leaf_of entries) in
    heads-in-front entries (member-of leaf ∷ others)
    ∙ sym (ap (λ (l : List LogLeaf). map_of l ++ others) (reverse-append (leaf ∷ []) (map leaf_of entries))
    ∙ ap (λ (l : Entries). l ++ others) (map-append member-of rest (leaf ∷ []))
    ∙ append_assoc (map member-of rest) (member-of leaf ∷ []) others)

-- of the records with the newest first
pub newest-heads : (entries : List (List ℕ × Signed)) → map_of (reverse (map leaf_of entries)) ≡ heads_before entries []
newest-heads entries = sym (heads-in-front entries [] ∙ append-nil (map_of (reverse (map leaf_of entries))))
