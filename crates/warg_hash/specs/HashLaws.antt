-- Laws of hash texts: a text names one digest, has 71 bytes, and is ordered as the digest.
use Rattle.std.proofs.Common.{true, false, ◌≡◌, ℕ, zero, suc, ◌+◌, ◌/◌, ◌%◌, ◌<◌, ◌≤◌, ◌==◌, ◌&&◌, nat_lt, Bool, if◌then◌else◌, List, [], ◌∷◌, length, drop, Option, Some, None, Result, Ok, Err, refl, sym, ap, ◌∙◌, arith, inl, inr}
use Rattle.std.specs.Prelude.{bytes_eq, slice_index}
use Rattle.std.specs.Ordering.{ordering_then, nat_cmp}
use Rattle.std.specs.declared.cmp.Ordering.{Ordering}
use Rattle.std.specs.declared.cmp.Ordering.TheVariants.{Less, Equal, Greater}
use Rattle.std.specs.Cmp.{nat_cmp_is}
use Rattle.std.specs.Cmp.Lexicographic.{slice_cmp}
use Rattle.std.proofs.lemmas.Bool.{and_parts, cases_lt, eqb-true, lt-ltb, le-ltb}
use Rattle.std.proofs.lemmas.Option.{cond_some, none-some}
use Rattle.std.proofs.lemmas.Slice.Eq.{bytes_eq-Decides}
use Rattle.hex.specs.Hex.{IsBytes, decode_sized, encode_with, lower_digits}
use Rattle.hex.specs.declared.error.FromHexError.{FromHexError}
use Rattle.hex.proofs.HexLemmas.{length-encode_with, decode_sized-encode_lower, decode_sized-ok, decode_sized-twice, decode_of-ok}
use Rattle.warg_hash.specs.Hash.{IsDigest, IsHashText, hash_text, digest_with_text, digest_of}

-- a hash text has 71 bytes
pub length-hash_text : (digest : List ℕ) → length digest ≡ 32 → length (hash_text digest) ≡ 71
length-hash_text digest is = omega (arith, length-encode_with lower_digits digest, is)

-- ---- the digest of a text

-- the digits of a digest's text decode to the digest
pub digits_decode : (text digest : List ℕ) → IsHashText text digest → decode_sized (drop 7 text) 32 ≡ Ok digest
digits_decode text digest is =
    ap (λ (t : List ℕ). decode_sized (drop 7 t) 32) is.1 ∙ decode_sized-encode_lower digest 32 is.0.0 is.0.1

-- what 64 digits decode to is a digest
pub decoded_digest : (digits digest : List ℕ) → decode_sized digits 32 ≡ Ok digest → IsDigest digest
decoded_digest digits digest decodes =
    let len = decode_sized-ok digits 32 digest decodes in
    let ok = decode_of-ok digits digest (sym (decode_sized-twice digits 32 len) ∙ decodes) in
    (omega (arith, len, ok.2), ok.3)

-- a digest that a text's digits decode to, and whose text it is
pub is_hash_text : (text digits digest : List ℕ) → decode_sized digits 32 ≡ Ok digest → text ≡ hash_text digest → IsHashText text digest
is_hash_text text digits digest decodes same = (decoded_digest digits digest decodes, same)

-- a hash text names its digest
pub digest_of-again : (text digest : List ℕ) → IsHashText text digest → digest_of text ≡ Some digest
unfolding digest_of
digest_of-again text digest is =
    let same : bytes_eq (hash_text digest) text ≡ true = (bytes_eq-Decides (hash_text digest) text).1 (sym is.1) in
    rw (digits_decode text digest is, same) refl

with_text-sound : (text digest : List ℕ) (d : Result (List ℕ) FromHexError) → decode_sized (drop 7 text) 32 ≡ d → digest_with_text text d ≡ Some digest → IsHashText text digest
with_text-sound text digest (Ok x) decodes read =
    let c = cond_some (bytes_eq (hash_text x) text) x digest read in
    let same : text ≡ hash_text x = sym ((bytes_eq-Decides (hash_text x) text).0 c.0) in
    rw (← c.1) (is_hash_text text (drop 7 text) x decodes same)
with_text-sound text digest (Err e) decodes read = absurd (none-some digest read)

-- the digest that a text names has that text
pub digest_of-sound : (text digest : List ℕ) → digest_of text ≡ Some digest → IsHashText text digest
unfolding digest_of
digest_of-sound text digest read = with_text-sound text digest (decode_sized (drop 7 text) 32) refl read

none_from : {A : Type 0} (o : Option A) → ((x : A) → o ≡ Some x → ⊥) → o ≡ None
none_from None h = refl
none_from (Some x) h = absurd (h x refl)

-- any other text names none
pub digest_of-none : (text : List ℕ) → ((digest : List ℕ) → IsHashText text digest → ⊥) → digest_of text ≡ None
digest_of-none text h = none_from (digest_of text) (λ digest read. h digest (digest_of-sound text digest read))

some_is : {A : Type 0} (x y : A) → Some x ≡ Some y → x ≡ y
some_is x y e = cc

-- a text names one digest
pub one_digest : (text a b : List ℕ) → IsHashText text a → IsHashText text b → a ≡ b
one_digest text a b of_a of_b = some_is a b (sym (digest_of-again text a of_a) ∙ digest_of-again text b of_b)

-- ---- the order

-- the hex digit of a number below 16
abbrev digit_of : ℕ → ℕ
digit_of d = slice_index lower_digits d

-- digits ascend, from `0` to `9` and from `a` to `f`
abbrev is_placed : ℕ → Bool
is_placed d = digit_of d == (if nat_lt d 10 then 48 + d else 87 + d)

abbrev all_placed : ℕ → Bool
all_placed zero = true
all_placed (suc n) = is_placed n && all_placed n

placed_at : (n k : ℕ) → all_placed n ≡ true → k < n → is_placed k ≡ true
placed_at zero k h lt = absurd (omega arith)
placed_at (suc n) k h lt =
    let parts = and_parts (is_placed n) (all_placed n) h in
    elim (cases_lt k n) [
      | inl below ↦ placed_at n k parts.1 below
      | inr top ↦
          let e : k ≡ n = omega arith in
          rw e parts.0
    ]

digit_below : (d : ℕ) → d < 10 → digit_of d ≡ 48 + d
digit_below d lt =
    let ten : nat_lt d 10 ≡ true = lt-ltb d 10 lt in
    rw ten at (eqb-true _ _ (placed_at 16 d refl (omega arith)))

digit_above : (d : ℕ) → 10 ≤ d → d < 16 → digit_of d ≡ 87 + d
digit_above d le lt =
    let ten : nat_lt d 10 ≡ false = le-ltb d 10 le in
    rw ten at (eqb-true _ _ (placed_at 16 d refl lt))

digits_ascend : (c d : ℕ) → c < d → d < 16 → digit_of c < digit_of d
digits_ascend c d lt top =
    elim (cases_lt c 10) [
      | inl low ↦
          let ec = digit_below c low in
          elim (cases_lt d 10) [
            | inl small ↦ let ed = digit_below d small in omega (arith, ec, ed)
            | inr large ↦ let ed = digit_above d large top in omega (arith, ec, ed)
          ]
      | inr high ↦
          let ec = digit_above c high (omega arith) in
          let ed = digit_above d (omega arith) top in
          omega (arith, ec, ed)
    ]

data Sorts (x y : ℕ) : Type 0 where
  below : x < y → Sorts x y
  same : x ≡ y → Sorts x y
  above : y < x → Sorts x y

sorts : (x y : ℕ) → Sorts x y
sorts x y =
    elim (cases_lt x y) [
      | inl lt ↦ below lt
      | inr le ↦
          elim (cases_lt y x) [
            | inl gt ↦ above gt
            | inr ge ↦ same (omega (arith, le, ge))
          ]
    ]

cmp_below : (x y : ℕ) → x < y → nat_cmp x y ≡ Less
cmp_below x y lt = sym (nat_cmp_is x y Less lt)

cmp_same : (x y : ℕ) → x ≡ y → nat_cmp x y ≡ Equal
cmp_same x y e = sym (nat_cmp_is x y Equal e)

cmp_above : (x y : ℕ) → y < x → nat_cmp x y ≡ Greater
cmp_above x y gt = sym (nat_cmp_is x y Greater gt)

-- digits compare as their numbers
digits_compare : (c d : ℕ) → c < 16 → d < 16 → nat_cmp (digit_of c) (digit_of d) ≡ nat_cmp c d
digits_compare c d below_c below_d = by (sorts c d)
  where
    by : Sorts c d → nat_cmp (digit_of c) (digit_of d) ≡ nat_cmp c d
    by (below lt) = cmp_below _ _ (digits_ascend c d lt below_d) ∙ sym (cmp_below c d lt)
    by (same e) = cmp_same _ _ (ap digit_of e) ∙ sym (cmp_same c d e)
    by (above gt) = cmp_above _ _ (digits_ascend d c gt below_c) ∙ sym (cmp_above c d gt)

-- two numbers compare by their sixteens, and then by what is left
by_sixteens : (a b : ℕ) → ordering_then (nat_cmp (a / 16) (b / 16)) (nat_cmp (a % 16) (b % 16)) ≡ nat_cmp a b
by_sixteens a b = by (sorts (a / 16) (b / 16)) (sorts (a % 16) (b % 16))
  where
    by : Sorts (a / 16) (b / 16) → Sorts (a % 16) (b % 16) → ordering_then (nat_cmp (a / 16) (b / 16)) (nat_cmp (a % 16) (b % 16)) ≡ nat_cmp a b
    by (below lt) r = rw (cmp_below _ _ lt, cmp_below a b (omega (arith, lt))) refl
    by (above gt) r = rw (cmp_above _ _ gt, cmp_above a b (omega (arith, gt))) refl
    by (same e) (below lt) = rw (cmp_same _ _ e, cmp_below _ _ lt, cmp_below a b (omega (arith, e, lt))) refl
    by (same e) (same f) = rw (cmp_same _ _ e, cmp_same _ _ f, cmp_same a b (omega (arith, e, f))) refl
    by (same e) (above gt) = rw (cmp_same _ _ e, cmp_above _ _ gt, cmp_above a b (omega (arith, e, gt))) refl

then_again : (x y z : Ordering) → ordering_then x (ordering_then y z) ≡ ordering_then (ordering_then x y) z
then_again Less y z = refl
then_again Equal y z = refl
then_again Greater y z = refl

-- byte strings compare as their hex digits
digits_in_order : (a b : List ℕ) → IsBytes a → IsBytes b → slice_cmp nat_cmp (encode_with lower_digits a) (encode_with lower_digits b) ≡ slice_cmp nat_cmp a b
unfolding encode_with
digits_in_order [] [] of_a of_b = refl
digits_in_order [] (y ∷ b) of_a of_b = refl
digits_in_order (x ∷ a) [] of_a of_b = refl
digits_in_order (x ∷ a) (y ∷ b) of_a of_b =
    let lt_x : x < 256 = of_a 0 in
    let lt_y : y < 256 = of_b 0 in
    let high = digits_compare (x / 16) (y / 16) (omega (arith, lt_x)) (omega (arith, lt_y)) in
    let low = digits_compare (x % 16) (y % 16) (omega arith) (omega arith) in
    let rest = digits_in_order a b (λ i. of_a (suc i)) (λ i. of_b (suc i)) in
    rw (high, low, rest) (then_again (nat_cmp (x / 16) (y / 16)) (nat_cmp (x % 16) (y % 16)) (slice_cmp nat_cmp a b) ∙ ap (λ o. ordering_then o (slice_cmp nat_cmp a b)) (by_sixteens x y))

-- hash texts are ordered as their digests
pub texts_in_order : (a b : List ℕ) → IsDigest a → IsDigest b → slice_cmp nat_cmp (hash_text a) (hash_text b) ≡ slice_cmp nat_cmp a b
texts_in_order a b of_a of_b = digits_in_order a b of_a.1 of_b.1
