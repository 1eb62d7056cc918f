-- What is read as a number is a form of it, each form is read so, and what is written is a form.
use Rattle.std.proofs.Common.{◌≡◌, ℕ, zero, suc, ◌+◌, ◌-◌, ◌*◌, ◌/◌, ◌^◌, ◌<◌, ◌≤◌, ◌⊎◌, ltb, List, [], ◌∷◌, ◌++◌, length, Ok, refl, sym, ap, subst, arith, inl, inr}
use Rattle.std.proofs.Math.Nat.{pow-succ'}
use Rattle.std.proofs.lemmas.Bool.{cases_lt, ltb-true, lt-ltb, le-ltb}
use Rattle.warg_values.specs.ReadingLaws.{bind_ok, ok_is, never, wanted_ok, pick_below}
use Rattle.comp_format.specs.Fault.{Form}
use Rattle.comp_format.specs.Numbers.{Leb, Number, SignedLeb, SignedIndex, leb_at, number_at, signed_leb_at, signed_index_at, leb_text, number_text, signed_leb_text, signed_index_text}

pub leb_form : (most : ℕ) (bytes : List ℕ) (x : ℕ × List ℕ) → leb_at most bytes ≡ Ok x → Leb most x.0 bytes x.1
unfolding leb_at
leb_form zero bytes x e = absurd cc
leb_form (suc most) [] x e = absurd cc
leb_form (suc most) (b ∷ bytes) x e =
    pick_below b 128 _ _ _ e
    (λ below is. let same = ok_is (b, bytes) x is in inl (below, sym (ap (λ (p : ℕ × List ℕ). p.0) same), ap (λ (p : ℕ × List ℕ). p.1) same))
    (λ above is.
    let high = bind_ok (leb_at most bytes) _ x is in
    let same = ok_is (b - 128 + 128 * high.0.0, high.0.1) x high.2 in
    let n-is : b - 128 + 128 * high.0.0 ≡ x.0 = ap (λ (p : ℕ × List ℕ). p.0) same in
    let sum : x.0 + 128 ≡ b + 128 * high.0.0 = omega arith in
    inr (above, high.0.0, sum, subst (λ (r : List ℕ). Leb most high.0.0 bytes r) (ap (λ (p : ℕ × List ℕ). p.1) same) (leb_form most bytes high.0 high.1)))

pub leb_again : (most n : ℕ) (bytes rest : List ℕ) → Leb most n bytes rest → leb_at most bytes ≡ Ok (n, rest)
unfolding leb_at
leb_again zero n bytes rest h = absurd h
leb_again (suc most) n [] rest h = absurd h
leb_again (suc most) n (b ∷ bytes) rest (inl h) = rw (lt-ltb b 128 h.0, h.1, h.2) refl
leb_again (suc most) n (b ∷ bytes) rest (inr h) =
    let above = h.0 in
    let high = h.1 in
    let sum : n + 128 ≡ b + 128 * high = h.2 in
    let n-is : b - 128 + 128 * high ≡ n = omega arith in
    rw (le-ltb b 128 above, leb_again most high bytes rest h.3, n-is) refl

pub number_form : (bytes : List ℕ) (x : ℕ × List ℕ) → number_at bytes ≡ Ok x → Number x.0 bytes x.1
unfolding number_at
number_form bytes x e =
    let n = bind_ok (leb_at 5 bytes) _ x e in
    let fits = wanted_ok (ltb n.0.0 (2 ^ 32)) Form (Ok n.0) x n.2 in
    subst (λ (y : ℕ × List ℕ). Number y.0 bytes y.1) (ok_is n.0 x fits.1) (record { form = leb_form 5 bytes n.0 n.1; fits = ltb-true n.0.0 (2 ^ 32) fits.0 })

pub number_again : (n : ℕ) (bytes rest : List ℕ) → Number n bytes rest → number_at bytes ≡ Ok (n, rest)
unfolding number_at
number_again n bytes rest h = rw (leb_again 5 n bytes rest h.form, lt-ltb n (2 ^ 32) h.fits) refl

pub leb_written : (most n : ℕ) (rest : List ℕ) → n < 128 ^ suc most → Leb (suc most) n (leb_text (suc most) n ++ rest) rest
unfolding leb_text
leb_written zero n rest fits = let low : n < 128 = omega (arith, fits) in rw (lt-ltb n 128 low) (inl (low, refl, refl))
leb_written (suc most) n rest fits =
    elim (cases_lt n 128) [
      | inl low ↦ rw (lt-ltb n 128 low) (inl (low, refl, refl))
      | inr high ↦
          let step : 128 ^ suc (suc most) ≡ 128 * 128 ^ suc most = pow-succ' 128 (suc most) in
          let next : n / 128 < 128 ^ suc most = omega (arith, step, fits) in
          rw (le-ltb n 128 high) (inr (omega arith, n / 128, omega arith, leb_written most (n / 128) rest next))
    ]

pub number_written : (n : ℕ) (rest : List ℕ) → n < 2 ^ 32 → Number n (number_text n ++ rest) rest
unfolding number_text
number_written n rest fits = record { form = leb_written 4 n rest (omega (arith, fits)); fits = fits }

-- a number has a byte at least
pub leb_shorter : (most n : ℕ) (bytes rest : List ℕ) → Leb most n bytes rest → length rest < length bytes
leb_shorter zero n bytes rest h = absurd h
leb_shorter (suc most) n [] rest h = absurd h
leb_shorter (suc most) n (b ∷ bytes) rest (inl h) = omega (arith, ap length h.2)
leb_shorter (suc most) n (b ∷ bytes) rest (inr h) = omega (arith, leb_shorter most h.1 bytes rest h.3)

-- ---- signed

pub signed_leb_form : (most : ℕ) (bytes : List ℕ) (x : ℕ × List ℕ) → signed_leb_at most bytes ≡ Ok x → SignedLeb most x.0 bytes x.1
unfolding signed_leb_at
signed_leb_form zero bytes x e = absurd cc
signed_leb_form (suc most) [] x e = absurd cc
signed_leb_form (suc most) (b ∷ bytes) x e =
    pick_below b 64 _ _ _ e
    (λ below is. let same = ok_is (b, bytes) x is in inl (below, sym (ap (λ (p : ℕ × List ℕ). p.0) same), ap (λ (p : ℕ × List ℕ). p.1) same))
    (λ _ e.
    pick_below b 128 _ _ _ e (λ _ is. never _ x is) (λ above is.
    let high = bind_ok (signed_leb_at most bytes) _ x is in
    let same = ok_is (b - 128 + 128 * high.0.0, high.0.1) x high.2 in
    let n-is : b - 128 + 128 * high.0.0 ≡ x.0 = ap (λ (p : ℕ × List ℕ). p.0) same in
    let sum : x.0 + 128 ≡ b + 128 * high.0.0 = omega arith in
    inr (above, high.0.0, sum, subst (λ (r : List ℕ). SignedLeb most high.0.0 bytes r) (ap (λ (p : ℕ × List ℕ). p.1) same) (signed_leb_form most bytes high.0 high.1))))

pub signed_leb_again : (most n : ℕ) (bytes rest : List ℕ) → SignedLeb most n bytes rest → signed_leb_at most bytes ≡ Ok (n, rest)
unfolding signed_leb_at
signed_leb_again zero n bytes rest h = absurd h
signed_leb_again (suc most) n [] rest h = absurd h
signed_leb_again (suc most) n (b ∷ bytes) rest (inl h) = rw (lt-ltb b 64 h.0, h.1, h.2) refl
signed_leb_again (suc most) n (b ∷ bytes) rest (inr h) =
    let above : 128 ≤ b = h.0 in
    let high = h.1 in
    let sum : n + 128 ≡ b + 128 * high = h.2 in
    let n-is : b - 128 + 128 * high ≡ n = omega arith in
    rw (le-ltb b 64 (omega arith), le-ltb b 128 above, signed_leb_again most high bytes rest h.3, n-is) refl

pub signed_index_form : (bytes : List ℕ) (x : ℕ × List ℕ) → signed_index_at bytes ≡ Ok x → SignedIndex x.0 bytes x.1
unfolding signed_index_at
signed_index_form bytes x e =
    let n = bind_ok (signed_leb_at 5 bytes) _ x e in
    let fits = wanted_ok (ltb n.0.0 (2 ^ 32)) Form (Ok n.0) x n.2 in
    subst (λ (y : ℕ × List ℕ). SignedIndex y.0 bytes y.1) (ok_is n.0 x fits.1) (record { form = signed_leb_form 5 bytes n.0 n.1; fits = ltb-true n.0.0 (2 ^ 32) fits.0 })

pub signed_index_again : (n : ℕ) (bytes rest : List ℕ) → SignedIndex n bytes rest → signed_index_at bytes ≡ Ok (n, rest)
unfolding signed_index_at
signed_index_again n bytes rest h = rw (signed_leb_again 5 n bytes rest h.form, lt-ltb n (2 ^ 32) h.fits) refl

pub signed_leb_written : (most n : ℕ) (rest : List ℕ) → n < 64 * 128 ^ most → SignedLeb (suc most) n (signed_leb_text (suc most) n ++ rest) rest
unfolding signed_leb_text
signed_leb_written zero n rest fits = let low : n < 64 = omega (arith, fits) in rw (lt-ltb n 64 low) (inl (low, refl, refl))
signed_leb_written (suc most) n rest fits =
    elim (cases_lt n 64) [
      | inl low ↦ rw (lt-ltb n 64 low) (inl (low, refl, refl))
      | inr high ↦
          let step : 128 ^ suc most ≡ 128 * 128 ^ most = pow-succ' 128 most in
          let next : n / 128 < 64 * 128 ^ most = omega (arith, step, fits) in
          rw (le-ltb n 64 high) (inr (omega arith, n / 128, omega arith, signed_leb_written most (n / 128) rest next))
    ]

pub signed_index_written : (n : ℕ) (rest : List ℕ) → n < 2 ^ 32 → SignedIndex n (signed_index_text n ++ rest) rest
unfolding signed_index_text
signed_index_written n rest fits = record { form = signed_leb_written 4 n rest (omega (arith, fits)); fits = fits }

-- an index begins with a byte that is below 64, or with one of several
pub signed_first : (most n : ℕ) (bytes rest : List ℕ) → SignedLeb most n bytes rest → (b : ℕ) × (after : List ℕ) × (bytes ≡ b ∷ after) × ((b < 64) ⊎ (128 ≤ b))
signed_first zero n bytes rest h = absurd h
signed_first (suc most) n [] rest h = absurd h
signed_first (suc most) n (b ∷ bytes) rest (inl h) = (b, bytes, refl, inl h.0)
signed_first (suc most) n (b ∷ bytes) rest (inr h) = (b, bytes, refl, inr h.0)
