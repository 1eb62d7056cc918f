-- Reading values one after the other, as a loop does.
use Rattle.std.proofs.Common.{◌≡◌, ℕ, suc, ◌-◌, ◌+◌, ◌≤◌, ◌<◌, List, [], ◌∷◌, ◌++◌, Result, Ok, Err, refl, sym, ap, ◌∙◌, append_assoc, arith}
use Rattle.std.proofs.lemmas.List.{append-nil}
use Rattle.warg_values.specs.Reading.{◌>>=◌}
use Rattle.comp_format.specs.Fault.{Fault, Form, NotCarried}
use Rattle.comp_format.specs.Vectors.{ReaderOf, many_at}
use Rattle.comp_reader.specs.declared.refusal.Refusal.{Refusal}
use Rattle.comp_reader.specs.declared.refusal.Refusal.TheVariants as refusals
use Rattle.comp_reader.specs.Refusal.{Fails}

-- what was read before, and what is still read
abbrev pub with_front : {X : Type 0} → List X → Result (List X × List ℕ) Fault → Result (List X × List ℕ) Fault
with_front front read = read >>= λ x. Ok (front ++ x.0, x.1)

module _ {X : Type 0} (one : ReaderOf X) where
  regroup : (front : List X) (x : X) (read : Result (List X × List ℕ) Fault) → with_front front (read >>= λ xs. Ok (x ∷ xs.0, xs.1)) ≡ with_front (front ++ x ∷ []) read
  regroup front x (Ok xs) = ap (λ (ys : List X). Ok (ys, xs.1)) (simp append_assoc)
  regroup front x (Err fault) = refl

  pub goes_on : (front : List X) (count i : ℕ) (bytes : List ℕ) (x : X) (after : List ℕ) (total : Result (List X × List ℕ) Fault) → i < count → one bytes ≡ Ok (x, after)
      → with_front front (many_at one (count - i) bytes) ≡ total → with_front (front ++ x ∷ []) (many_at one (count - (i + 1)) after) ≡ total
  unfolding many_at
  goes_on front count i bytes x after total lt h so_far =
      let k : count - i ≡ suc (count - (i + 1)) = omega arith in
      let one_more : with_front front (many_at one (count - i) bytes) ≡ with_front (front ++ x ∷ []) (many_at one (count - (i + 1)) after) = rw (k, h) (regroup front x (many_at one (count - (i + 1)) after)) in
      sym one_more ∙ so_far

  pub ends : (e : Refusal) (front : List X) (count i : ℕ) (bytes : List ℕ) (total : Result (List X × List ℕ) Fault) → i < count → Fails e (one bytes)
      → with_front front (many_at one (count - i) bytes) ≡ total → Fails e total
  unfolding many_at
  ends refusals.Memory front count i bytes total lt h so_far = tt
  ends (refusals.Form at) front count i bytes total lt h so_far =
      let k : count - i ≡ suc (count - (i + 1)) = omega arith in
      let failed : with_front front (many_at one (count - i) bytes) ≡ Err Form = rw (k, h) refl in
      sym so_far ∙ failed
  ends (refusals.NotCarried at) front count i bytes total lt h so_far =
      let k : count - i ≡ suc (count - (i + 1)) = omega arith in
      let failed : with_front front (many_at one (count - i) bytes) ≡ Err NotCarried = rw (k, h) refl in
      sym so_far ∙ failed

  pub is_done : (front : List X) (count i : ℕ) (bytes : List ℕ) (total : Result (List X × List ℕ) Fault) → count ≤ i → with_front front (many_at one (count - i) bytes) ≡ total → total ≡ Ok (front, bytes)
  unfolding many_at
  is_done front count i bytes total le so_far =
      let k : count - i ≡ 0 = omega arith in
      let none_left : with_front front (many_at one (count - i) bytes) ≡ Ok (front, bytes) = rw k (ap (λ (xs : List X). Ok (xs, bytes)) (append-nil front)) in
      sym so_far ∙ none_left
