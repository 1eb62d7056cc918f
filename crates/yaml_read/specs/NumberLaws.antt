-- What `parse` reads, as a number within limits.
use Rattle.std.proofs.Common.{◌≡◌, ℕ, ◌^◌, ◌<◌, ◌≤◌, List, [], ◌∷◌, Bool, true, false, cond, ◌&&◌, leb, ltb, Some, None, refl, inl, inr, arith, ℤ, pos, negsuc, ◌-◌, ◌≤ℤ◌, int_le, FitsSigned, w64}
use Rattle.std.proofs.lemmas.Int.{ints}
use Rattle.std.proofs.lemmas.Bool.{cases_Bool, lt-ltb, le-leb, leb-true, ltb-true}
use Rattle.std.specs.Char.{digit_value, is_digit}
use Rattle.std.specs.List.{list_all}
use Rattle.std.specs.Str.Parse.{AllDigits, IsNumeral, digits_value, without_leading_plus, without_leading_sign, signed_digits_value}
use Rattle.yaml_small.specs.Schema.{is_numeral}
use Rattle.yaml_read.specs.Scalar.{unsigned_number, signed_number}

digits_true : (ds : List ℕ) → AllDigits 10 ds → list_all (λ d. is_digit d 10) ds ≡ true
digits_true [] h = refl
digits_true (c ∷ cs) h = rw (lt-ltb (digit_value c) 10 h.0, digits_true cs h.1) refl

true_digits : (ds : List ℕ) → list_all (λ d. is_digit d 10) ds ≡ true → AllDigits 10 ds
true_digits [] h = tt
true_digits (c ∷ cs) h = parts (ltb (digit_value c) 10) (list_all (λ d. is_digit d 10) cs) h (λ a b. (ltb-true (digit_value c) 10 a, true_digits cs b))
  where
    parts : {P : Type 0} (a b : Bool) → a && b ≡ true → (a ≡ true → b ≡ true → P) → P
    parts true b h f = f refl h
    parts false b h f = absurd cc

pub numeral_true : (ds : List ℕ) → IsNumeral 10 ds → is_numeral 10 ds ≡ true
numeral_true [] h = let some : 0 < 0 = h.0 in absurd (omega arith)
numeral_true (c ∷ cs) h = digits_true (c ∷ cs) h.1

pub true_numeral : (ds : List ℕ) → is_numeral 10 ds ≡ true → IsNumeral 10 ds
true_numeral [] h = absurd cc
true_numeral (c ∷ cs) h = (omega arith, true_digits (c ∷ cs) h)

pub unsigned_is : (most n : ℕ) (bs : List ℕ) → IsNumeral 10 (without_leading_plus bs) → n ≡ digits_value 10 (without_leading_plus bs) → n ≤ most → unsigned_number most bs ≡ Some n
unfolding unsigned_number
unsigned_is most n bs numeral is fits = rw (numeral_true (without_leading_plus bs) numeral, ← is, le-leb n most fits) refl

pub unsigned_large : (most n : ℕ) (bs : List ℕ) → n ≡ digits_value 10 (without_leading_plus bs) → most < n → unsigned_number most bs ≡ None
unfolding unsigned_number
unsigned_large most n bs is large =
    elim (cases_Bool (leb n most)) [
      | inl e ↦ let le : n ≤ most = leb-true n most e in absurd (omega arith)
      | inr e ↦ rw (← is, e) (none (is_numeral 10 (without_leading_plus bs)) n)
    ]
  where
    none : (b : Bool) (n : ℕ) → cond (b && false) (Some n) None ≡ None
    none true n = refl
    none false n = refl

pub unsigned_none : (most : ℕ) (bs : List ℕ) → most < 2 ^ 64 → ¬ (IsNumeral 10 (without_leading_plus bs) × (digits_value 10 (without_leading_plus bs) < 2 ^ 64)) → unsigned_number most bs ≡ None
unfolding unsigned_number
unsigned_none most bs fits h = by_tests (is_numeral 10 (without_leading_plus bs)) (leb (digits_value 10 (without_leading_plus bs)) most) (digits_value 10 (without_leading_plus bs)) (λ a b. let le : digits_value 10 (without_leading_plus bs) ≤ most = leb-true (digits_value 10 (without_leading_plus bs)) most b in h (true_numeral (without_leading_plus bs) a, omega arith))
  where
    by_tests : (a b : Bool) (n : ℕ) → (a ≡ true → b ≡ true → ⊥) → cond (a && b) (Some n) None ≡ None
    by_tests true true n h = absurd (h refl refl)
    by_tests true false n h = refl
    by_tests false b n h = refl

fits_below : (z : ℤ) → FitsSigned w64 z → z ≤ℤ pos (2 ^ 63 - 1)
fits_below (pos n) fits = let f : n < 2 ^ 63 = fits.sfits in omega (arith, ints)
fits_below (negsuc n) fits = let f : n < 2 ^ 63 = fits.sfits in omega (arith, ints)

fits_above : (z : ℤ) → FitsSigned w64 z → negsuc (2 ^ 63 - 1) ≤ℤ z
fits_above (pos n) fits = let f : n < 2 ^ 63 = fits.sfits in omega (arith, ints)
fits_above (negsuc n) fits = let f : n < 2 ^ 63 = fits.sfits in omega (arith, ints)

fits_within : (z : ℤ) → negsuc (2 ^ 63 - 1) ≤ℤ z → z ≤ℤ pos (2 ^ 63 - 1) → FitsSigned w64 z
fits_within (pos n) low high = let f : n < 2 ^ 63 = omega (arith, ints) in record { sfits = f }
fits_within (negsuc n) low high = let f : n < 2 ^ 63 = omega (arith, ints) in record { sfits = f }

pub signed_is : (least most n : ℤ) (bs : List ℕ) → IsNumeral 10 (without_leading_sign bs) → n ≡ signed_digits_value 10 bs → int_le least n ≡ true → int_le n most ≡ true → signed_number least most bs ≡ Some n
unfolding signed_number
signed_is least most n bs numeral is low high = rw (numeral_true (without_leading_sign bs) numeral, ← is, low, high) refl

none_last : {N : Type 0} (a b : Bool) (n : N) → cond (a && (b && false)) (Some n) None ≡ None
none_last true true n = refl
none_last true false n = refl
none_last false b n = refl

none_mid : {N : Type 0} (a : Bool) (n : N) → cond (a && false) (Some n) None ≡ None
none_mid true n = refl
none_mid false n = refl

pub signed_high : (least most n : ℤ) (bs : List ℕ) → n ≡ signed_digits_value 10 bs → int_le n most ≡ false → signed_number least most bs ≡ None
unfolding signed_number
signed_high least most n bs is high = rw (← is, high) (none_last (is_numeral 10 (without_leading_sign bs)) (int_le least n) n)

pub signed_low : (least most n : ℤ) (bs : List ℕ) → n ≡ signed_digits_value 10 bs → int_le least n ≡ false → signed_number least most bs ≡ None
unfolding signed_number
signed_low least most n bs is low = rw (← is, low) (none_mid (is_numeral 10 (without_leading_sign bs)) n)

pub signed_none : (least most : ℤ) (bs : List ℕ) → FitsSigned w64 least → FitsSigned w64 most → ¬ (IsNumeral 10 (without_leading_sign bs) × FitsSigned w64 (signed_digits_value 10 bs)) → signed_number least most bs ≡ None
unfolding signed_number
signed_none least most bs fits_low fits_high h =
    by_tests (is_numeral 10 (without_leading_sign bs)) (int_le least (signed_digits_value 10 bs)) (int_le (signed_digits_value 10 bs) most) (signed_digits_value 10 bs)
    (λ a b d. h (true_numeral (without_leading_sign bs) a, between (signed_digits_value 10 bs) b d))
  where
    between : (z : ℤ) → int_le least z ≡ true → int_le z most ≡ true → FitsSigned w64 z
    between z a b =
        let low : negsuc (2 ^ 63 - 1) ≤ℤ least = fits_above least fits_low in
        let high : most ≤ℤ pos (2 ^ 63 - 1) = fits_below most fits_high in
        fits_within z (omega (arith, ints)) (omega (arith, ints))

    by_tests : (a b d : Bool) (n : ℤ) → (a ≡ true → b ≡ true → d ≡ true → ⊥) → cond (a && (b && d)) (Some n) None ≡ None
    by_tests true true true n h = absurd (h refl refl refl)
    by_tests true true false n h = refl
    by_tests true false d n h = refl
    by_tests false b d n h = refl
