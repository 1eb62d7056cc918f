-- Which bytes stand in the names of packages and in the texts of versions: none of the marks of an import's name.
use Rattle.std.proofs.Common.{◌≡◌, ℕ, ◌<◌, ◌+◌, ◌%◌, ◌^◌, ◌==◌, ◌||◌, not, Bool, true, List, [], ◌∷◌, ◌++◌, refl, ap, ◌∙◌, arith}
use Rattle.std.specs.List.{list_all, slice_split, join_with_byte}
use Rattle.std.specs.Fmt.{decimal}
use Rattle.std.proofs.lemmas.Bool.{and_parts, and_from}
use Rattle.std.proofs.lemmas.Bool.Decides.{nat_tests}
use Rattle.std.proofs.lemmas.Fmt.{decimal_by_steps}
use Rattle.std.proofs.lemmas.List.Splits.{join_with_byte-slice_split}
use Rattle.semver.specs.Parse.{Parts}
use Rattle.semver.specs.Identifiers.{parts_text, marked}
use Rattle.semver.specs.Grammar.{IsValid, is_identifier_byte, is_build_identifier, is_pre_identifier, is_pre_release, is_build}
use Rattle.warg_hash.specs.Name.{is_lower, is_digit, is_word, is_label, IsPackageName}
use Rattle.warg_names.specs.Cut.{lacks}
use Rattle.warg_names.specs.Import.{at_sign, angle, space}

-- a weaker test passes where a stronger one does
list_all-weaker : (p q : ℕ → Bool) → ((b : ℕ) → p b ≡ true → q b ≡ true) → (xs : List ℕ) → list_all p xs ≡ true → list_all q xs ≡ true
list_all-weaker p q h [] all = refl
list_all-weaker p q h (x ∷ xs) all =
    let a = and_parts _ _ all in and_from _ _ (h x a.0) (list_all-weaker p q h xs a.1)

-- a test passes at two texts in a row
pub list_all-both : (p : ℕ → Bool) (xs ys : List ℕ) → list_all p xs ≡ true → list_all p ys ≡ true → list_all p (xs ++ ys) ≡ true
list_all-both p [] ys h k = k
list_all-both p (x ∷ xs) ys h k =
    let a = and_parts _ _ h in and_from _ _ a.0 (list_all-both p xs ys a.1 k)

-- what passes at each part and at the byte between them passes at the parts joined
list_all-joined : (q : ℕ → Bool) (c : ℕ) (p : List ℕ → Bool) → ((part : List ℕ) → p part ≡ true → list_all q part ≡ true) → q c ≡ true
    → (parts : List (List ℕ)) → list_all p parts ≡ true → list_all q (join_with_byte c parts) ≡ true
list_all-joined q c p each mark [] h = refl
list_all-joined q c p each mark (part ∷ []) h = each part (and_parts _ _ h).0
list_all-joined q c p each mark (part ∷ next ∷ parts) h =
    let a = and_parts _ _ h in
    list_all-both q part _ (each part a.0) (and_from _ _ mark (list_all-joined q c p each mark (next ∷ parts) a.1))

list_all-split : (q : ℕ → Bool) (c : ℕ) (p : List ℕ → Bool) → ((part : List ℕ) → p part ≡ true → list_all q part ≡ true) → q c ≡ true
    → (text : List ℕ) → list_all p (slice_split (λ b. b == c) text) ≡ true → list_all q text ≡ true
list_all-split q c p each mark text h =
    rw (join_with_byte-slice_split c text) at (list_all-joined q c p each mark (slice_split (λ b. b == c) text) h)

-- ---- names of packages

-- a byte of a package's name
abbrev pub is_name_byte : ℕ → Bool
is_name_byte b = (is_lower b || is_digit b) || (b == 45 || b == 58)

name_byte-lower : (b : ℕ) → is_lower b ≡ true → is_name_byte b ≡ true
name_byte-lower b h = grind (arith, nat_tests)

name_byte-word : (b : ℕ) → (is_lower b || is_digit b) ≡ true → is_name_byte b ≡ true
name_byte-word b h = grind (arith, nat_tests)

word_bytes : (word : List ℕ) → is_word word ≡ true → list_all is_name_byte word ≡ true
word_bytes [] h = refl
word_bytes (b ∷ rest) h =
    let a = and_parts _ _ h in
    and_from _ _ (name_byte-lower b a.0) (list_all-weaker _ _ name_byte-word rest a.1)

label_bytes : (label : List ℕ) → is_label label ≡ true → list_all is_name_byte label ≡ true
label_bytes label h = list_all-split is_name_byte 45 is_word word_bytes refl label h

name_bytes : (name : List ℕ) → IsPackageName name → list_all is_name_byte name ≡ true
name_bytes name h =
    let parts = h.2 in
    ap (list_all is_name_byte) parts.joined
    ∙ list_all-both is_name_byte h.0 (58 ∷ h.1) (label_bytes h.0 parts.namespace_is_label) (and_from _ _ refl (label_bytes h.1 parts.name_is_label))

no_at-name : (b : ℕ) → is_name_byte b ≡ true → not (b == at_sign) ≡ true
no_at-name b h = grind (arith, nat_tests)

no_angle-name : (b : ℕ) → is_name_byte b ≡ true → not (b == angle) ≡ true
no_angle-name b h = grind (arith, nat_tests)

-- the name of a package holds no `@`
pub name_lacks_at : (name : List ℕ) → IsPackageName name → lacks at_sign name ≡ true
name_lacks_at name h = list_all-weaker _ _ no_at-name name (name_bytes name h)

-- and no `>`
pub name_lacks_angle : (name : List ℕ) → IsPackageName name → lacks angle name ≡ true
name_lacks_angle name h = list_all-weaker _ _ no_angle-name name (name_bytes name h)

-- ---- versions

-- a byte of a version
abbrev pub is_version_byte : ℕ → Bool
is_version_byte b = is_identifier_byte b || (b == 46 || b == 43)

identifier_is_version : (b : ℕ) → is_identifier_byte b ≡ true → is_version_byte b ≡ true
identifier_is_version b h = grind (arith, nat_tests)

build_identifier : (part : List ℕ) → is_build_identifier part ≡ true → list_all is_version_byte part ≡ true
build_identifier part h = list_all-weaker _ _ identifier_is_version part (and_parts _ _ h).1

pre_identifier : (part : List ℕ) → is_pre_identifier part ≡ true → list_all is_version_byte part ≡ true
pre_identifier part h = build_identifier part (and_parts _ _ h).0

pre_bytes : (text : List ℕ) → is_pre_release text ≡ true → list_all is_version_byte text ≡ true
pre_bytes [] h = refl
pre_bytes (b ∷ rest) h = list_all-split is_version_byte 46 is_pre_identifier pre_identifier refl (b ∷ rest) h

build_bytes : (text : List ℕ) → is_build text ≡ true → list_all is_version_byte text ≡ true
build_bytes [] h = refl
build_bytes (b ∷ rest) h = list_all-split is_version_byte 46 is_build_identifier build_identifier refl (b ∷ rest) h

marked_bytes : (mark : ℕ) (text : List ℕ) → is_version_byte mark ≡ true → list_all is_version_byte text ≡ true → list_all is_version_byte (marked mark text) ≡ true
marked_bytes mark [] m h = refl
marked_bytes mark (b ∷ rest) m h = and_from _ _ m h

digit_is_version : (d : ℕ) → d < 10 → is_version_byte (48 + d) ≡ true
digit_is_version d h = grind (arith, nat_tests)

decimal_bytes : (n : ℕ) → n < 2 ^ 64 → list_all is_version_byte (decimal n) ≡ true
decimal_bytes n h = decimal_by_steps (λ m ds. list_all is_version_byte ds ≡ true)
    (λ m lt. and_from _ _ (digit_is_version m lt) refl)
    (λ m ds le all. list_all-both is_version_byte ds ((48 + m % 10) ∷ []) all (and_from _ _ (digit_is_version (m % 10) (omega arith)) refl))
    n h

version_bytes : (p : Parts) → IsValid p → list_all is_version_byte (parts_text p) ≡ true
version_bytes p valid =
    let q = is_version_byte in
    list_all-both q (decimal p.0) _ (decimal_bytes p.0 valid.0) (and_from _ _ refl
    (list_all-both q (decimal p.1) _ (decimal_bytes p.1 valid.1) (and_from _ _ refl
    (list_all-both q (decimal p.2) _ (decimal_bytes p.2 valid.2)
    (list_all-both q (marked 45 p.3) (marked 43 p.4) (marked_bytes 45 p.3 refl (pre_bytes p.3 valid.3)) (marked_bytes 43 p.4 refl (build_bytes p.4 valid.4)))))))

no_space-version : (b : ℕ) → is_version_byte b ≡ true → not (b == space) ≡ true
no_space-version b h = grind (arith, nat_tests)

no_angle-version : (b : ℕ) → is_version_byte b ≡ true → not (b == angle) ≡ true
no_angle-version b h = grind (arith, nat_tests)

-- the text of a version holds no space
pub version_lacks_space : (p : Parts) → IsValid p → lacks space (parts_text p) ≡ true
version_lacks_space p valid = list_all-weaker _ _ no_space-version (parts_text p) (version_bytes p valid)

-- and no `>`
pub version_lacks_angle : (p : Parts) → IsValid p → lacks angle (parts_text p) ≡ true
version_lacks_angle p valid = list_all-weaker _ _ no_angle-version (parts_text p) (version_bytes p valid)
