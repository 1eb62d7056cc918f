-- What stands at leaves tells which log and which record it is.
use Rattle.std.proofs.Common.{◌≡◌, ℕ, nat_lt, true, List, [], ◌∷◌, ◌++◌, codes, append_assoc, refl, sym, ap, ◌∙◌, arith}
use Rattle.std.specs.List.{list_all}
use Rattle.std.specs.Str.{IsAscii}
use Rattle.std.proofs.lemmas.Bool.{and_parts, ltb-true}
use Rattle.std.proofs.lemmas.Str.{IsAscii-append}
use Rattle.std.proofs.lemmas.Str.Ascii.{IsAscii-nil, IsAscii-cons}
use Rattle.hex.specs.Hex.{IsBytes, lower_digits, encode_lower}
use Rattle.hex.proofs.HexLemmas.{IsAscii-encode_with}
use Rattle.warg_hash.specs.Hash.{IsDigest, hash_text}
use Rattle.warg_hash.specs.HashLaws.{length-hash_text, one_digest}
use Rattle.warg_proof.specs.Leaves.{log_entry, map_value}
use Rattle.warg_proof.proofs.Hashes.{branch_parts}

-- what is behind the same text
behind : (front x y : List ℕ) → front ++ x ≡ front ++ y → x ≡ y
behind front x y e = (branch_parts front x front y refl (ap (λ (t : List ℕ). 1 ∷ t) e)).1

same_digest : (a b : List ℕ) → IsDigest a → IsDigest b → hash_text a ≡ hash_text b → a ≡ b
same_digest a b is_a is_b e = one_digest (hash_text a) a b (is_a, refl) (is_b, e)

in_parts : (log record_id : List ℕ) → log_entry log record_id ≡ codes "WARG-LOG-LEAF-V0:" ++ (hash_text log ++ (codes ":" ++ hash_text record_id))
in_parts log record_id =
    append_assoc (codes "WARG-LOG-LEAF-V0:" ++ hash_text log) (codes ":") (hash_text record_id)
    ∙ append_assoc (codes "WARG-LOG-LEAF-V0:") (hash_text log) (codes ":" ++ hash_text record_id)

pub same_entry : (log record_id other other_id : List ℕ) → IsDigest log → IsDigest record_id → IsDigest other → IsDigest other_id
    → log_entry log record_id ≡ log_entry other other_id → (log ≡ other) × (record_id ≡ other_id)
same_entry log record_id other other_id is_log is_record is_other is_id e =
    let tails = behind (codes "WARG-LOG-LEAF-V0:") (hash_text log ++ (codes ":" ++ hash_text record_id)) (hash_text other ++ (codes ":" ++ hash_text other_id))
    (sym (in_parts log record_id) ∙ e ∙ in_parts other other_id) in
    let lens = length-hash_text log is_log.0 ∙ sym (length-hash_text other is_other.0) in
    let parts = branch_parts (hash_text log) (codes ":" ++ hash_text record_id) (hash_text other) (codes ":" ++ hash_text other_id) lens (ap (λ (t : List ℕ). 1 ∷ t) tails) in
    (same_digest log other is_log is_other parts.0, same_digest record_id other_id is_record is_id (behind (codes ":") (hash_text record_id) (hash_text other_id) parts.1))

pub same_value : (record_id other_id : List ℕ) → IsDigest record_id → IsDigest other_id → map_value record_id ≡ map_value other_id → record_id ≡ other_id
same_value record_id other_id is_record is_id e = same_digest record_id other_id is_record is_id (behind (codes "WARG-MAP-LEAF-V0:") _ _ e)

-- ---- what stands at leaves is text

literal_text : (xs : List ℕ) → list_all (λ (b : ℕ). nat_lt b 128) xs ≡ true → IsAscii xs
literal_text [] h = IsAscii-nil
literal_text (x ∷ xs) h =
    let parts = and_parts (nat_lt x 128) (list_all (λ (b : ℕ). nat_lt b 128) xs) h in
    IsAscii-cons x xs (ltb-true x 128 parts.0) (literal_text xs parts.1)

hash_ascii : (digest : List ℕ) → IsAscii (hash_text digest)
hash_ascii digest = IsAscii-append (codes "sha256:") (encode_lower digest) (literal_text (codes "sha256:") refl) (IsAscii-encode_with lower_digits digest (literal_text lower_digits refl))

are_bytes : (xs : List ℕ) → IsAscii xs → IsBytes xs
are_bytes xs h = λ i. omega (arith, h i)

pub value_bytes : (record_id : List ℕ) → IsBytes (map_value record_id)
value_bytes record_id = are_bytes (map_value record_id) (IsAscii-append (codes "WARG-MAP-LEAF-V0:") (hash_text record_id) (literal_text (codes "WARG-MAP-LEAF-V0:") refl) (hash_ascii record_id))

pub entry_bytes : (log record_id : List ℕ) → IsBytes (log_entry log record_id)
entry_bytes log record_id =
    let front = IsAscii-append (codes "WARG-LOG-LEAF-V0:") (hash_text log) (literal_text (codes "WARG-LOG-LEAF-V0:") refl) (hash_ascii log) in
    let more = IsAscii-append (codes "WARG-LOG-LEAF-V0:" ++ hash_text log) (codes ":") front (literal_text (codes ":") refl) in
    are_bytes (log_entry log record_id) (IsAscii-append (codes "WARG-LOG-LEAF-V0:" ++ hash_text log ++ codes ":") (hash_text record_id) more (hash_ascii record_id))
