-- Digests, and the paths that they name.
use Rattle.std.proofs.Common.{◌≡◌, ℕ, zero, suc, true, false, Bool, ◌&&◌, nat_eq, nat_lt, List, [], ◌∷◌, ◌++◌, length, codes, refl, ap, ◌∙◌, arith}
use Rattle.std.proofs.lemmas.Bool.{and_parts, eqb-true, lt-ltb, ltb-true}
use Rattle.std.proofs.lemmas.List.{append_cancel_left}
use Rattle.std.specs.List.{list_all}
use Rattle.hex.specs.Hex.{IsBytes, encode_lower, decode_of}
use Rattle.hex.proofs.HexLemmas.{decode_of-encode_lower, decode_of-same}
use Rattle.warg_hash.specs.Hash.{IsDigest}
use Rattle.warg_content_files.specs.ContentFiles.{content_path, is_digest}

both : (a b : Bool) → a ≡ true → b ≡ true → (a && b) ≡ true
both true b p q = q
both false b p q = absurd cc

are_bytes : (xs : List ℕ) → list_all (λ b. nat_lt b 256) xs ≡ true → IsBytes xs
are_bytes [] h i = omega arith
are_bytes (x ∷ xs) h zero = ltb-true x 256 (and_parts (nat_lt x 256) _ h).0
are_bytes (x ∷ xs) h (suc i) = are_bytes xs (and_parts (nat_lt x 256) _ h).1 i

all_bytes : (xs : List ℕ) → IsBytes xs → list_all (λ b. nat_lt b 256) xs ≡ true
all_bytes [] h = refl
all_bytes (x ∷ xs) h = both _ _ (lt-ltb x 256 (h zero)) (all_bytes xs (λ i. h (suc i)))

-- a digest by the test is one
pub digest_by_test : (d : List ℕ) → is_digest d ≡ true → IsDigest d
digest_by_test d h = let p = and_parts (nat_eq (length d) 32) _ h in (eqb-true (length d) 32 p.0, are_bytes d p.1)

-- a digest passes the test
pub digest_passes : (d : List ℕ) → IsDigest d → is_digest d ≡ true
digest_passes d is = both _ _ (rw (is.0) refl) (all_bytes d is.1)

-- a path names one digest
pub one_digest : (folder a b : List ℕ) → is_digest a ≡ true → is_digest b ≡ true → content_path folder a ≡ content_path folder b → a ≡ b
one_digest folder a b of_a of_b same =
    let digits : encode_lower a ≡ encode_lower b = append_cancel_left (folder ++ codes "/") _ _ same in
    decode_of-same (encode_lower a) a b (decode_of-encode_lower a (digest_by_test a of_a).1) (ap decode_of digits ∙ decode_of-encode_lower b (digest_by_test b of_b).1)
