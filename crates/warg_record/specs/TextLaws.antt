-- What is read of a field's text, and the texts that are read.
use Rattle.std.proofs.Common.{◌≡◌, ℕ, ◌<◌, ◌&&◌, nat_lt, true, false, List, [], ◌∷◌, length, codes, Some, None, Result, Ok, Err, refl, sym, ap, ◌∙◌, arith, inl, inr}
use Rattle.std.specs.Prelude.{bytes_eq, IsTrue}
use Rattle.std.specs.Result.{result_ok}
use Rattle.std.specs.List.{list_all, list_any, AllByRecursion}
use Rattle.std.specs.Str.{is_utf8, IsAscii}
use Rattle.std.proofs.lemmas.Bool.{and_parts, and_from, or_cases, false≢true, lt-ltb, ltb-true, false_from_ne_true}
use Rattle.std.proofs.lemmas.List.{length-append}
use Rattle.std.proofs.lemmas.Str.{IsUtf8-from_is_utf8, is_utf8-from_IsUtf8, IsUtf8-from_ascii, IsAscii-append}
use Rattle.std.proofs.lemmas.Str.Ascii.{IsAscii-cons, IsAscii-nil}
use Rattle.std.proofs.lemmas.Option.{cond_some}
use Rattle.std.proofs.lemmas.Slice.Eq.{bytes_eq-Decides}
use Rattle.semver.specs.Parse.{Parts, version_parts}
use Rattle.semver.specs.Identifiers.{parts_text}
use Rattle.semver.specs.Grammar.{IsValid}
use Rattle.semver.proofs.Grammar.{version_parts-sound, version_parts-complete}
use Rattle.hex.specs.Hex.{encode_lower, lower_digits}
use Rattle.hex.proofs.HexLemmas.{IsAscii-encode_with}
use Rattle.warg_hash.specs.Hash.{IsDigest, hash_text, digest_of}
use Rattle.warg_hash.specs.HashLaws.{length-hash_text, digest_of-again, digest_of-sound}
use Rattle.warg_record.specs.Key.{is_key_text, IsKeyText}
use Rattle.warg_record.specs.Record.{Kind, Package, Operator, IsText, is_permission, permissions_of}
use Rattle.warg_record.specs.Reading.{text_of, key_of, hash_of, version_of, permission_of}
use Rattle.warg_record.specs.StepLaws.{bind_some, some_is, never}
use Rattle.warg_record.specs.KeyLaws.{is_key_text-sound, is_key_text-complete}
use Rattle.warg_record.specs.VersionLaws.{IsAscii-parts_text, parts_text-some}

ok_from : {A E : Type 0} (r : Result A E) (x : A) → result_ok r ≡ Some x → r ≡ Ok x
ok_from (Ok y) x e = ap (λ (z : _). Ok z) (some_is y x e)
ok_from (Err y) x e = never x e

-- what is read as a text is the bytes, which are a text
pub text_of-sound : (bytes text : List ℕ) → text_of bytes ≡ Some text → (bytes ≡ text) × IsText text
unfolding text_of
text_of-sound bytes text read =
    let c = cond_some (is_utf8 bytes && nat_lt 0 (length bytes)) bytes text read in
    let p = and_parts (is_utf8 bytes) (nat_lt 0 (length bytes)) c.0 in
    (c.1, rw (← c.1) (IsUtf8-from_is_utf8 bytes p.0, ltb-true 0 (length bytes) p.1))

-- a text is read as it is
pub text_of-again : (text : List ℕ) → IsText text → text_of text ≡ Some text
unfolding text_of
text_of-again text is =
    let test : (is_utf8 text && nat_lt 0 (length text)) ≡ true = and_from (is_utf8 text) (nat_lt 0 (length text)) (is_utf8-from_IsUtf8 text is.0) (lt-ltb 0 (length text) is.1) in
    rw test refl

-- no key is read of a text that is none
pub key_of-none : (bytes text : List ℕ) → text_of bytes ≡ Some text → (IsKeyText text → ⊥) → key_of bytes ≡ None
unfolding key_of
key_of-none bytes text read h =
    let no : is_key_text text ≡ false = false_from_ne_true (is_key_text text) (λ t. h (is_key_text-sound text (text_of-sound bytes text read).1.0 t)) in
    rw (read, no) refl

-- a key is read of its text alone
pub key_of-sound : (bytes key : List ℕ) → key_of bytes ≡ Some key → (bytes ≡ key) × IsKeyText key
unfolding key_of
key_of-sound bytes key read =
    let a = bind_some (text_of bytes) _ key read in
    let c = cond_some (is_key_text a.0) a.0 key a.2 in
    let t = text_of-sound bytes a.0 a.1 in
    rw (← c.1) (t.0, is_key_text-sound a.0 t.1.0 c.0)

pub key_of-again : (key : List ℕ) → IsKeyText key → key_of key ≡ Some key
unfolding key_of
key_of-again key is =
    let parts = is.2 in
    let len : 0 < length key = omega (arith, ap length parts.joined, length-append is.0 (58 ∷ is.1)) in
    rw (text_of-again key (parts.is_text, len), is_key_text-complete key is) refl

IsAscii-all : (text : List ℕ) → list_all (λ b. nat_lt b 128) text ≡ true → IsAscii text
IsAscii-all [] h = IsAscii-nil
IsAscii-all (b ∷ rest) h =
    let a = and_parts (nat_lt b 128) (list_all (λ c. nat_lt c 128) rest) h in
    IsAscii-cons b rest (ltb-true b 128 a.0) (IsAscii-all rest a.1)

IsAscii-hash_text : (digest : List ℕ) → IsAscii (hash_text digest)
IsAscii-hash_text digest =
    let scheme : IsAscii (codes "sha256:") = IsAscii-all (codes "sha256:") refl in
    IsAscii-append (codes "sha256:") (encode_lower digest) scheme (IsAscii-encode_with lower_digits digest (IsAscii-all lower_digits refl))

-- a hash is read of its text alone
pub hash_of-sound : (bytes digest : List ℕ) → hash_of bytes ≡ Some digest → (bytes ≡ hash_text digest) × IsDigest digest
unfolding hash_of
hash_of-sound bytes digest read =
    let a = bind_some (text_of bytes) digest_of digest read in
    let t = text_of-sound bytes a.0 a.1 in
    let is = digest_of-sound a.0 digest a.2 in
    (t.0 ∙ is.1, is.0)

pub hash_of-again : (digest : List ℕ) → IsDigest digest → hash_of (hash_text digest) ≡ Some digest
unfolding hash_of
hash_of-again digest is =
    let len : 0 < length (hash_text digest) = omega (arith, length-hash_text digest is.0) in
    rw (text_of-again (hash_text digest) (IsUtf8-from_ascii _ (IsAscii-hash_text digest), len)) (digest_of-again (hash_text digest) digest (is, refl))

-- a version is read of its text alone
pub version_of-sound : (bytes : List ℕ) (version : Parts) → version_of bytes ≡ Some version → (bytes ≡ parts_text version) × IsValid version
unfolding version_of
version_of-sound bytes version read =
    let a = bind_some (text_of bytes) (λ text. result_ok (version_parts text)) version read in
    let t = text_of-sound bytes a.0 a.1 in
    let v = version_parts-sound a.0 version (ok_from (version_parts a.0) version a.2) in
    (t.0 ∙ sym v.0, v.1)

pub version_of-again : (version : Parts) → IsValid version → version_of (parts_text version) ≡ Some version
unfolding version_of
version_of-again version is =
    rw (text_of-again (parts_text version) (IsUtf8-from_ascii _ (IsAscii-parts_text version is), parts_text-some version), version_parts-complete version is) refl

-- a permission is read of its text alone
pub permission_of-sound : (kind : Kind) (bytes permission : List ℕ) → permission_of kind bytes ≡ Some permission → (bytes ≡ permission) × IsTrue (is_permission kind permission)
unfolding permission_of
permission_of-sound kind bytes permission read =
    let a = bind_some (text_of bytes) _ permission read in
    let c = cond_some (is_permission kind a.0) a.0 permission a.2 in
    let t = text_of-sound bytes a.0 a.1 in
    rw (← c.1) (t.0, c.0)

known : (permission : List ℕ) (texts : List (List ℕ)) → AllByRecursion IsText texts → list_any (bytes_eq permission) texts ≡ true → IsText permission
known permission [] are is = absurd (false≢true is)
known permission (text ∷ texts) are is =
    elim (or_cases (bytes_eq permission text) (list_any (bytes_eq permission) texts) is) [
      | inl same ↦ rw ((bytes_eq-Decides permission text).0 same) are.0
      | inr other ↦ known permission texts are.1 other
    ]

ascii_text : (text : List ℕ) → list_all (λ b. nat_lt b 128) text ≡ true → 0 < length text → IsText text
ascii_text text h len = (IsUtf8-from_ascii text (IsAscii-all text h), len)

permissions_are_texts : (kind : Kind) → AllByRecursion IsText (permissions_of kind)
permissions_are_texts Package = (ascii_text _ refl (omega arith), (ascii_text _ refl (omega arith), tt))
permissions_are_texts Operator = (ascii_text _ refl (omega arith), (ascii_text _ refl (omega arith), (ascii_text _ refl (omega arith), tt)))

permission_is_text : (kind : Kind) (permission : List ℕ) → IsTrue (is_permission kind permission) → IsText permission
permission_is_text kind permission is = known permission (permissions_of kind) (permissions_are_texts kind) is

pub permission_of-again : (kind : Kind) (permission : List ℕ) → IsTrue (is_permission kind permission) → permission_of kind permission ≡ Some permission
unfolding permission_of
permission_of-again kind permission is =
    rw (text_of-again permission (permission_is_text kind permission is), is) refl
