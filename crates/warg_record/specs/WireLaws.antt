-- What is known of the forms of fields.
use Rattle.std.proofs.Common.{◌≡◌, ℕ, zero, suc, ◌+◌, ◌-◌, ◌*◌, ◌/◌, ◌%◌, ◌^◌, ◌<◌, ◌≤◌, ◌==◌, ◌||◌, nat_lt, nat_le, Bool, true, false, cond, List, [], ◌∷◌, ◌++◌, length, take, drop, Option, Some, None, refl, sym, ap, subst, ◌∙◌, append_assoc, arith, inl, inr}
use Rattle.std.specs.Prelude.{IfSome}
use Rattle.std.proofs.Math.Nat.{pow-succ'}
use Rattle.std.proofs.lemmas.Bool.{cases_Bool, cases_lt, or_parts, ltb-true, ltb-false, leb-false, eqb-true, eqb-false, eq-eqb, ne_eqb, lt-ltb, le-ltb, lt-leb}
use Rattle.std.proofs.lemmas.List.{length-append, take_at, drop_at, take-append-drop, length-take-le}
use Rattle.warg_record.specs.Wire.{varint_in, varint, counted, field, optional_field, number_field}
use Rattle.warg_record.specs.Reading.{◌>>=◌, varint_at, counted_at, field_at, optional_at, number_at}
use Rattle.warg_record.specs.StepLaws.{bind_some, guard_some, pass_some, some_is, never}

-- a number of more than one group
pub varint_in-more : (k n : ℕ) → 0 < k → 128 ≤ n → varint_in k n ≡ (128 + n % 128) ∷ varint_in (k - 1) (n / 128)
unfolding varint_in
varint_in-more zero n lt le = absurd (omega arith)
varint_in-more (suc k) n lt le =
    let less : suc k - 1 ≡ k = omega arith in
    rw (le-ltb n 128 le, less) refl

-- its first group, and then the others
pub varint_in-appended : (k n : ℕ) (before : List ℕ) → 0 < k → 128 ≤ n
    → (before ++ (128 + n % 128) ∷ []) ++ varint_in (k - 1) (n / 128) ≡ before ++ varint_in k n
varint_in-appended k n before lt le =
    append_assoc before ((128 + n % 128) ∷ []) (varint_in (k - 1) (n / 128)) ∙ ap (λ (t : List ℕ). before ++ t) (sym (varint_in-more k n lt le))

-- ---- what is read has the form, and what has the form is read

-- the first byte, where there is one, is not this key
abbrev pub IsOtherKey : ℕ → List ℕ → Type 0
IsOtherKey key [] = Unit {0}
IsOtherKey key (b ∷ bytes) = (b == key) ≡ false

abbrev rest_of_varint : ℕ → ℕ → List ℕ → Option (ℕ × List ℕ)
rest_of_varint k b bytes = varint_at k bytes >>= λ high. cond (nat_le 256 b || (high.0 == 0 || nat_le (2 ^ 57) high.0)) None (Some (b - 128 + 128 * high.0, high.1))

pub varint_at-sound : (k : ℕ) (bytes : List ℕ) (x : ℕ × List ℕ) → varint_at k bytes ≡ Some x → (bytes ≡ varint_in k x.0 ++ x.1) × (x.0 < 2 ^ 64)
unfolding varint_at varint_in
varint_at-sound zero bytes x e = never x e
varint_at-sound (suc k) [] x e = never x e
varint_at-sound (suc k) (b ∷ bytes) x e =
    elim (cases_Bool (nat_lt b 128)) [
      | inl small ↦
          let last : (b, bytes) ≡ x = some_is _ _ (sym (ap (λ (t : Bool). cond t (Some (b, bytes)) (rest_of_varint k b bytes)) small) ∙ e) in
          let lt : b < 128 = ltb-true b 128 small in
          subst (λ (y : ℕ × List ℕ). (b ∷ bytes ≡ varint_in (suc k) y.0 ++ y.1) × (y.0 < 2 ^ 64)) last (rw small refl, omega arith)
      | inr large ↦
          let le : 128 ≤ b = ltb-false b 128 large in
          let more : rest_of_varint k b bytes ≡ Some x = sym (ap (λ (t : Bool). cond t (Some (b, bytes)) (rest_of_varint k b bytes)) large) ∙ e in
          let a = bind_some (varint_at k bytes) _ x more in
          let g = guard_some (nat_le 256 b || (a.0.0 == 0 || nat_le (2 ^ 57) a.0.0)) _ x a.2 in
          let tests = or_parts (nat_le 256 b) (a.0.0 == 0 || nat_le (2 ^ 57) a.0.0) g.0 in
          let highs = or_parts (a.0.0 == 0) (nat_le (2 ^ 57) a.0.0) tests.1 in
          let byte : b < 256 = leb-false 256 b tests.0 in
          let bound : a.0.0 < 2 ^ 57 = leb-false (2 ^ 57) a.0.0 highs.1 in
          let some = eqb-false a.0.0 0 highs.0 in
          let n : ℕ = b - 128 + 128 * a.0.0 in
          let first : 128 + n % 128 ≡ b = omega arith in
          let others : n / 128 ≡ a.0.0 = omega arith in
          let big : nat_lt n 128 ≡ false = le-ltb n 128 (omega arith) in
          let so_far = varint_at-sound k bytes a.0 a.1 in
          subst (λ (y : ℕ × List ℕ). (b ∷ bytes ≡ varint_in (suc k) y.0 ++ y.1) × (y.0 < 2 ^ 64)) (some_is _ _ g.1) (rw (big, first, others) (ap (λ (t : List ℕ). b ∷ t) so_far.0), omega arith)
    ]

small_again : (k n : ℕ) (rest : List ℕ) → n < 128 → varint_at (suc k) (varint_in (suc k) n ++ rest) ≡ Some (n, rest)
unfolding varint_at varint_in
small_again k n rest small = rw (lt-ltb n 128 small, lt-ltb n 128 small) refl

varint_first : (k n : ℕ) → 128 ≤ n → varint_in (suc k) n ≡ (128 + n % 128) ∷ varint_in k (n / 128)
unfolding varint_in
varint_first k n le = rw (le-ltb n 128 le) refl

varint_next : (k b high : ℕ) (bytes rest : List ℕ) → 128 ≤ b → b < 256 → 0 < high → high < 2 ^ 57 → varint_at k bytes ≡ Some (high, rest)
    → varint_at (suc k) (b ∷ bytes) ≡ Some (b - 128 + 128 * high, rest)
unfolding varint_at
varint_next k b high bytes rest large byte some bound again =
    let is_some : (high == 0) ≡ false = ne_eqb high 0 (λ z. omega arith) in
    rw (le-ltb b 128 large, again, lt-leb 256 b byte, is_some, lt-leb (2 ^ 57) high bound) refl

pub varint_at-again : (k n : ℕ) (rest : List ℕ) → n < 128 ^ suc k → n < 2 ^ 64 → varint_at (suc k) (varint_in (suc k) n ++ rest) ≡ Some (n, rest)
varint_at-again zero n rest fits lt = small_again zero n rest (omega arith)
varint_at-again (suc k) n rest fits lt =
    elim (cases_lt n 128) [
      | inl small ↦ small_again (suc k) n rest small
      | inr large ↦
          let power : n < 128 * 128 ^ suc k = subst (λ (m : ℕ). n < m) (pow-succ' 128 (suc k)) fits in
          let again = varint_at-again k (n / 128) rest (omega (arith, power)) (omega arith) in
          let value : (128 + n % 128) - 128 + 128 * (n / 128) ≡ n = omega arith in
          ap (λ (t : List ℕ). varint_at (suc (suc k)) (t ++ rest)) (varint_first (suc k) n large)
          ∙ varint_next (suc k) (128 + n % 128) (n / 128) (varint_in (suc k) (n / 128) ++ rest) rest (omega arith) (omega arith) (omega arith) (omega arith) again
          ∙ ap (λ (m : ℕ). Some (m, rest)) value
    ]

-- a number of 64 bits is read again
pub varint-again : (n : ℕ) (rest : List ℕ) → n < 2 ^ 64 → varint_at 10 (varint n ++ rest) ≡ Some (n, rest)
varint-again n rest lt = varint_at-again 9 n rest (omega arith) lt

pub counted_at-sound : (bytes : List ℕ) (x : List ℕ × List ℕ) → counted_at bytes ≡ Some x → bytes ≡ counted x.0 ++ x.1
unfolding counted_at
counted_at-sound bytes x e =
    let a = bind_some (varint_at 10 bytes) _ x e in
    let g = guard_some (nat_lt (length a.0.1) a.0.0) _ x a.2 in
    let le : a.0.0 ≤ length a.0.1 = ltb-false (length a.0.1) a.0.0 g.0 in
    let v = varint_at-sound 10 bytes a.0 a.1 in
    let len : length (take a.0.0 a.0.1) ≡ a.0.0 = length-take-le a.0.0 a.0.1 le in
    let parts : bytes ≡ counted (take a.0.0 a.0.1) ++ drop a.0.0 a.0.1 =
    v.0 ∙ ap (λ (t : List ℕ). varint a.0.0 ++ t) (sym (take-append-drop a.0.0 a.0.1)) ∙ sym (append_assoc (varint a.0.0) (take a.0.0 a.0.1) (drop a.0.0 a.0.1))
    ∙ ap (λ (n : ℕ). (varint n ++ take a.0.0 a.0.1) ++ drop a.0.0 a.0.1) (sym len) in
    subst (λ (y : List ℕ × List ℕ). bytes ≡ counted y.0 ++ y.1) (some_is _ _ g.1) parts

pub counted_at-again : (text rest : List ℕ) → length text < 2 ^ 64 → counted_at (counted text ++ rest) ≡ Some (text, rest)
unfolding counted_at
counted_at-again text rest lt =
    let regrouped : counted text ++ rest ≡ varint (length text) ++ (text ++ rest) = append_assoc (varint (length text)) text rest in
    let enough : nat_lt (length (text ++ rest)) (length text) ≡ false = le-ltb (length (text ++ rest)) (length text) (omega (arith, length-append text rest)) in
    ap counted_at regrouped ∙ rw (varint-again (length text) (text ++ rest) lt, enough, take_at text rest (length text) refl, drop_at text rest (length text) refl) refl

pub field_at-sound : (number : ℕ) (bytes : List ℕ) (x : List ℕ × List ℕ) → field_at number bytes ≡ Some x → bytes ≡ field number x.0 ++ x.1
unfolding field_at
field_at-sound number [] x e = never x e
field_at-sound number (b ∷ bytes) x e =
    let a = pass_some (b == 8 * number + 2) (counted_at bytes) x e in
    let key : b ≡ 8 * number + 2 = eqb-true b (8 * number + 2) a.0 in
    rw key (ap (λ (t : List ℕ). (8 * number + 2) ∷ t) (counted_at-sound bytes x a.1))

pub field_at-again : (number : ℕ) (text rest : List ℕ) → length text < 2 ^ 64 → field_at number (field number text ++ rest) ≡ Some (text, rest)
unfolding field_at
field_at-again number text rest lt =
    let key : ((8 * number + 2) == (8 * number + 2)) ≡ true = eq-eqb (8 * number + 2) (8 * number + 2) refl in
    rw key (counted_at-again text rest lt)

pub optional_at-sound : (number : ℕ) (bytes : List ℕ) (x : Option (List ℕ) × List ℕ) → optional_at number bytes ≡ Some x → bytes ≡ optional_field number x.0 ++ x.1
unfolding optional_at
optional_at-sound number [] x e = subst (λ (y : Option (List ℕ) × List ℕ). [] ≡ optional_field number y.0 ++ y.1) (some_is _ _ e) refl
optional_at-sound number (b ∷ bytes) x e =
    elim (cases_Bool (b == 8 * number + 2)) [
      | inl is ↦
          let more : (counted_at bytes >>= λ y. Some (Some y.0, y.1)) ≡ Some x = sym (ap (λ (t : Bool). cond t (counted_at bytes >>= λ y. Some (Some y.0, y.1)) (Some (None, b ∷ bytes))) is) ∙ e in
          let a = bind_some (counted_at bytes) _ x more in
          let key : b ≡ 8 * number + 2 = eqb-true b (8 * number + 2) is in
          subst (λ (y : Option (List ℕ) × List ℕ). b ∷ bytes ≡ optional_field number y.0 ++ y.1) (some_is _ _ a.2) (ap (λ (c : ℕ). c ∷ bytes) key ∙ ap (λ (t : List ℕ). (8 * number + 2) ∷ t) (counted_at-sound bytes a.0 a.1))
      | inr other ↦
          let last : (None, b ∷ bytes) ≡ x = some_is _ _ (sym (ap (λ (t : Bool). cond t (counted_at bytes >>= λ y. Some (Some y.0, y.1)) (Some (None, b ∷ bytes))) other) ∙ e) in
          subst (λ (y : Option (List ℕ) × List ℕ). b ∷ bytes ≡ optional_field number y.0 ++ y.1) last refl
    ]

pub optional_at-again : (number : ℕ) (o : Option (List ℕ)) (rest : List ℕ) → IfSome o (λ t. length t < 2 ^ 64) → IsOtherKey (8 * number + 2) rest → optional_at number (optional_field number o ++ rest) ≡ Some (o, rest)
unfolding optional_at
optional_at-again number None [] fits other = refl
optional_at-again number None (b ∷ rest) fits other = rw other refl
optional_at-again number (Some text) rest fits other =
    let key : ((8 * number + 2) == (8 * number + 2)) ≡ true = eq-eqb (8 * number + 2) (8 * number + 2) refl in
    rw (key, counted_at-again text rest fits) refl

pub number_at-sound : (number : ℕ) (bytes : List ℕ) (x : ℕ × List ℕ) → number_at number bytes ≡ Some x → (bytes ≡ number_field number x.0 ++ x.1) × (x.0 < 2 ^ 64)
unfolding number_at
number_at-sound number [] x e = subst (λ (y : ℕ × List ℕ). ([] ≡ number_field number y.0 ++ y.1) × (y.0 < 2 ^ 64)) (some_is _ _ e) (refl, omega arith)
number_at-sound number (b ∷ bytes) x e =
    elim (cases_Bool (b == 8 * number)) [
      | inl is ↦
          let more : (varint_at 10 bytes >>= λ n. cond (n.0 == 0) None (Some n)) ≡ Some x = sym (ap (λ (t : Bool). cond t (varint_at 10 bytes >>= λ n. cond (n.0 == 0) None (Some n)) (Some (0, b ∷ bytes))) is) ∙ e in
          let a = bind_some (varint_at 10 bytes) _ x more in
          let g = guard_some (a.0.0 == 0) _ x a.2 in
          let key : b ≡ 8 * number = eqb-true b (8 * number) is in
          let v = varint_at-sound 10 bytes a.0 a.1 in
          subst (λ (y : ℕ × List ℕ). (b ∷ bytes ≡ number_field number y.0 ++ y.1) × (y.0 < 2 ^ 64)) (some_is _ _ g.1) (ap (λ (c : ℕ). c ∷ bytes) key ∙ rw g.0 (ap (λ (t : List ℕ). (8 * number) ∷ t) v.0), v.1)
      | inr other ↦
          let last : (0, b ∷ bytes) ≡ x = some_is _ _ (sym (ap (λ (t : Bool). cond t (varint_at 10 bytes >>= λ n. cond (n.0 == 0) None (Some n)) (Some (0, b ∷ bytes))) other) ∙ e) in
          subst (λ (y : ℕ × List ℕ). (b ∷ bytes ≡ number_field number y.0 ++ y.1) × (y.0 < 2 ^ 64)) last (refl, omega arith)
    ]

zero_again : (number : ℕ) (rest : List ℕ) → IsOtherKey (8 * number) rest → number_at number rest ≡ Some (0, rest)
unfolding number_at
zero_again number [] other = refl
zero_again number (b ∷ rest) other = rw other refl

pub number_at-again : (number n : ℕ) (rest : List ℕ) → n < 2 ^ 64 → IsOtherKey (8 * number) rest → number_at number (number_field number n ++ rest) ≡ Some (n, rest)
unfolding number_at
number_at-again number n rest lt other =
    elim (cases_Bool (n == 0)) [
      | inl is ↦ rw is (rw (eqb-true n 0 is) (zero_again number rest other))
      | inr some ↦
          let key : (8 * number == 8 * number) ≡ true = eq-eqb (8 * number) (8 * number) refl in
          rw (some, key, varint-again n rest lt, some) refl
    ]
