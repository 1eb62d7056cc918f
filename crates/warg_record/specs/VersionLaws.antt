-- The text of a version is ASCII, and is not empty.
use Rattle.std.proofs.Common.{◌≡◌, ℕ, ◌<◌, ◌==◌, Bool, true, List, [], ◌∷◌, ◌++◌, length, arith}
use Rattle.std.specs.Str.{IsAscii}
use Rattle.std.specs.List.{list_all, slice_split, join_with_byte}
use Rattle.std.specs.Fmt.{decimal}
use Rattle.std.proofs.lemmas.Bool.{and_parts}
use Rattle.std.proofs.lemmas.Bool.Decides.{nat_tests}
use Rattle.std.proofs.lemmas.Fmt.{IsAscii-decimal}
use Rattle.std.proofs.lemmas.Str.{IsAscii-append}
use Rattle.std.proofs.lemmas.Str.Ascii.{IsAscii-cons, IsAscii-nil}
use Rattle.std.proofs.lemmas.List.{length-append}
use Rattle.std.proofs.lemmas.List.Splits.{join_with_byte-slice_split}
use Rattle.semver.specs.Parse.{Parts}
use Rattle.semver.specs.Identifiers.{parts_text, marked}
use Rattle.semver.specs.Grammar.{IsValid, is_identifier_byte, is_build_identifier, is_pre_identifier, is_pre_release, is_build}

identifier_byte_below : (b : ℕ) → is_identifier_byte b ≡ true → b < 128
identifier_byte_below b h = grind (arith, nat_tests)

IsAscii-identifier : (xs : List ℕ) → list_all is_identifier_byte xs ≡ true → IsAscii xs
IsAscii-identifier [] h = IsAscii-nil
IsAscii-identifier (x ∷ xs) h =
    let a = and_parts (is_identifier_byte x) (list_all is_identifier_byte xs) h in
    IsAscii-cons x xs (identifier_byte_below x a.0) (IsAscii-identifier xs a.1)

build_identifier : (part : List ℕ) → is_build_identifier part ≡ true → IsAscii part
build_identifier part h = IsAscii-identifier part (and_parts _ _ h).1

pre_identifier : (part : List ℕ) → is_pre_identifier part ≡ true → IsAscii part
pre_identifier part h = build_identifier part (and_parts _ _ h).0

joined : (p : List ℕ → Bool) → ((part : List ℕ) → p part ≡ true → IsAscii part) → (parts : List (List ℕ)) → list_all p parts ≡ true → IsAscii (join_with_byte 46 parts)
joined p ascii [] h = IsAscii-nil
joined p ascii (part ∷ []) h = ascii part (and_parts (p part) true h).0
joined p ascii (part ∷ next ∷ parts) h =
    let a = and_parts (p part) (list_all p (next ∷ parts)) h in
    IsAscii-append part (46 ∷ join_with_byte 46 (next ∷ parts)) (ascii part a.0)
    (IsAscii-cons 46 (join_with_byte 46 (next ∷ parts)) (omega arith) (joined p ascii (next ∷ parts) a.1))

split : (p : List ℕ → Bool) → ((part : List ℕ) → p part ≡ true → IsAscii part) → (text : List ℕ) → list_all p (slice_split (λ b. b == 46) text) ≡ true → IsAscii text
split p ascii text h = rw (join_with_byte-slice_split 46 text) at (joined p ascii (slice_split (λ b. b == 46) text) h)

IsAscii-pre : (text : List ℕ) → is_pre_release text ≡ true → IsAscii text
IsAscii-pre [] h = IsAscii-nil
IsAscii-pre (b ∷ rest) h = split is_pre_identifier pre_identifier (b ∷ rest) h

IsAscii-build : (text : List ℕ) → is_build text ≡ true → IsAscii text
IsAscii-build [] h = IsAscii-nil
IsAscii-build (b ∷ rest) h = split is_build_identifier build_identifier (b ∷ rest) h

IsAscii-marked : (mark : ℕ) (text : List ℕ) → mark < 128 → IsAscii text → IsAscii (marked mark text)
IsAscii-marked mark [] lt h = IsAscii-nil
IsAscii-marked mark (b ∷ rest) lt h = IsAscii-cons mark (b ∷ rest) lt h

-- the text of a version is ASCII
pub IsAscii-parts_text : (p : Parts) → IsValid p → IsAscii (parts_text p)
IsAscii-parts_text p valid =
    let dot = λ (text : List ℕ). IsAscii-cons 46 text (omega arith) in
    let pre = IsAscii-marked 45 p.3 (omega arith) (IsAscii-pre p.3 valid.3) in
    let build = IsAscii-marked 43 p.4 (omega arith) (IsAscii-build p.4 valid.4) in
    IsAscii-append _ _ (IsAscii-decimal p.0 valid.0) (dot _
    (IsAscii-append _ _ (IsAscii-decimal p.1 valid.1) (dot _
    (IsAscii-append _ _ (IsAscii-decimal p.2 valid.2)
    (IsAscii-append (marked 45 p.3) (marked 43 p.4) pre build)))))

-- a version has some text
pub parts_text-some : (p : Parts) → 0 < length (parts_text p)
parts_text-some p = omega (arith, length-append (decimal p.0) (46 ∷ (decimal p.1 ++ (46 ∷ (decimal p.2 ++ (marked 45 p.3 ++ marked 43 p.4))))))
