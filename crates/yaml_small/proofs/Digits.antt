-- One more digit of a number.
use Rattle.std.proofs.Common.{◌≡◌, ℕ, ◌+◌, ◌*◌, ◌<◌, ◌≤◌, List, [], ◌∷◌, length, drop, get_or, Bool, true, false, cond, ◌&&◌, leb, ltb, Option, Some, None, refl, sym, ap, ◌∙◌, add-one, drop-cons, arith}
use Rattle.std.proofs.Math.Nat.{mul-le-mul_left}
use Rattle.std.proofs.lemmas.Bool.{lt-ltb, le-leb, leb-true, ltb-true}
use Rattle.std.proofs.lemmas.List.{drop_all}
use Rattle.std.specs.List.{list_all}
use Rattle.std.specs.Char.{digit_value, is_digit}
use Rattle.std.specs.Str.Parse.{digits_value_after}
use Rattle.yaml_small.specs.Schema.{number}

-- the number that digits write behind those of n
abbrev pub read_on : ℕ → ℕ → ℕ → List ℕ → Option ℕ
read_on radix limit n digits =
    cond (list_all (λ d. is_digit d radix) digits && leb (digits_value_after radix n digits) limit) (Some (digits_value_after radix n digits)) None

pub read_start : (radix limit : ℕ) (digits : List ℕ) → 0 < length digits → read_on radix limit 0 digits ≡ number radix limit digits
read_start radix limit [] some = absurd (omega arith)
read_start radix limit (c ∷ cs) some = refl

not_so : (b : Bool) → (b ≡ true → ⊥) → b ≡ false
not_so true h = absurd (h refl)
not_so false h = refl

and_false : (b : Bool) → b && false ≡ false
and_false true = refl
and_false false = refl

grows : (radix n : ℕ) (digits : List ℕ) → 1 ≤ radix → n ≤ digits_value_after radix n digits
grows radix n [] some = omega arith
grows radix n (c ∷ cs) some =
    let more : n * radix + digit_value c ≤ digits_value_after radix (n * radix + digit_value c) cs = grows radix (n * radix + digit_value c) cs some in
    omega (arith, more, mul-le-mul_left n some)

pub read_digit : (radix limit n digit after i : ℕ) (digits : List ℕ) → i < length digits → digit_value (get_or digits i 0) < radix → digit_value (get_or digits i 0) ≡ digit
    → after ≡ n * radix + digit → read_on radix limit after (drop (i + 1) digits) ≡ read_on radix limit n (drop i digits)
read_digit radix limit n digit after i digits lt fits is next =
    let good : ltb (digit_value (get_or digits i 0)) radix ≡ true = lt-ltb (digit_value (get_or digits i 0)) radix fits in
    rw (add-one i, drop-cons digits i 0 lt, good, next, ← is) refl

pub read_other : (radix limit n i : ℕ) (digits : List ℕ) → i < length digits → (digit_value (get_or digits i 0) < radix → ⊥) → read_on radix limit n (drop i digits) ≡ None
read_other radix limit n i digits lt other =
    let bad : ltb (digit_value (get_or digits i 0)) radix ≡ false = not_so (ltb (digit_value (get_or digits i 0)) radix) (λ e. other (ltb-true (digit_value (get_or digits i 0)) radix e)) in
    rw (drop-cons digits i 0 lt, bad) refl

pub read_large : (radix limit n : ℕ) (digits : List ℕ) → limit < n → 1 ≤ radix → read_on radix limit n digits ≡ None
read_large radix limit n digits large some =
    let more = grows radix n digits some in
    let bad : leb (digits_value_after radix n digits) limit ≡ false = not_so (leb (digits_value_after radix n digits) limit) (λ e. let le : digits_value_after radix n digits ≤ limit = leb-true (digits_value_after radix n digits) limit e in absurd (omega (arith, le, more, large))) in
    rw bad (ap (λ (b : Bool). cond b (Some (digits_value_after radix n digits)) None) (and_false (list_all (λ d. is_digit d radix) digits)))

pub read_end : (radix limit n i : ℕ) (digits : List ℕ) → length digits ≤ i → n ≤ limit → read_on radix limit n (drop i digits) ≡ Some n
read_end radix limit n i digits all within =
    let good : leb n limit ≡ true = le-leb n limit within in
    rw (drop_all i digits all, good) refl

pub read_over : (radix limit n digit after i : ℕ) (digits : List ℕ) → i < length digits → digit_value (get_or digits i 0) < radix → digit_value (get_or digits i 0) ≡ digit
    → after ≡ n * radix + digit → limit < after → 1 ≤ radix → read_on radix limit n (drop i digits) ≡ None
read_over radix limit n digit after i digits lt fits is next large some =
    sym (read_digit radix limit n digit after i digits lt fits is next) ∙ read_large radix limit after (drop (i + 1) digits) large some
