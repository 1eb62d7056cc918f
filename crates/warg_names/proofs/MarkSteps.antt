-- Texts that are no marks.
use Rattle.std.proofs.Common.{◌≡◌, ◌≢◌, ℕ, nat_lt, true, List, [], ◌∷◌, ◌++◌, length, codes, Some, None, refl, sym, ap, arith}
use Rattle.std.specs.List.{list_all}
use Rattle.std.specs.Str.{IsAscii, IsUtf8}
use Rattle.std.proofs.lemmas.Bool.{and_parts, ltb-true}
use Rattle.std.proofs.lemmas.Str.{IsUtf8-from_ascii, IsAscii-append}
use Rattle.std.proofs.lemmas.Str.Ascii.{IsAscii-cons, IsAscii-nil}
use Rattle.hex.specs.Hex.{encode_lower, lower_digits}
use Rattle.hex.proofs.HexLemmas.{IsAscii-encode_with}
use Rattle.warg_hash.specs.Hash.{hash_text, digest_of}
use Rattle.warg_hash.specs.HashLaws.{length-hash_text, digest_of-none}
use Rattle.warg_names.specs.Cut.{behind}
use Rattle.warg_names.specs.Mark.{digest_marked}

all_ascii : (text : List ℕ) → list_all (λ b. nat_lt b 128) text ≡ true → IsAscii text
all_ascii [] h = IsAscii-nil
all_ascii (b ∷ rest) h =
    let a = and_parts (nat_lt b 128) (list_all (λ c. nat_lt c 128) rest) h in
    IsAscii-cons b rest (ltb-true b 128 a.0) (all_ascii rest a.1)

hash_text-utf8 : (digest : List ℕ) → IsUtf8 (hash_text digest)
hash_text-utf8 digest =
    IsUtf8-from_ascii (hash_text digest) (IsAscii-append (codes "sha256:") (encode_lower digest) (all_ascii (codes "sha256:") refl) (IsAscii-encode_with lower_digits digest (all_ascii lower_digits refl)))

-- digits of another number name no digest
pub digits_of_another_number : (digits : List ℕ) → length digits ≢ 64 → digest_of (codes "sha256:" ++ digits) ≡ None
digits_of_another_number digits h =
    digest_of-none (codes "sha256:" ++ digits) (λ digest is. h (omega (arith, ap length is.1, length-hash_text digest is.0.0)))

-- bytes that are no text name no digest
pub bytes_without_text : (text : List ℕ) → ¬ (IsUtf8 text) → digest_of text ≡ None
bytes_without_text text h = digest_of-none text (λ digest is. h (rw is.1 (hash_text-utf8 digest)))

-- a mark whose digits name no digest names none
pub unmarked : (mark digits : List ℕ) → Some digits ≡ behind (codes "sha256-") mark → digest_of (codes "sha256:" ++ digits) ≡ None → None ≡ digest_marked mark
unfolding digest_marked
unmarked mark digits is none = rw (← is) (sym none)
