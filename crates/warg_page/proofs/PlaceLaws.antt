-- Where a list has an element that passes a test.
use Rattle.std.proofs.Common.{◌≡◌, ◌≢◌, ◌<◌, ◌++◌, ◌∷◌, [], List, ℕ, zero, suc, Bool, true, false, Option, Some, None, refl, sym, ◌∙◌, ap, subst, get_or, take, arith}
use Rattle.std.specs.Prelude.{slice_get, IfSome, IfNone, is_some, cond, ◌||◌, position}
use Rattle.std.specs.List.{list_any}
use Rattle.std.proofs.lemmas.Bool.{false≢true}
use Rattle.std.proofs.lemmas.Option.{slice_get-get_or}
use Rattle.std.proofs.lemmas.List.Quantifiers.{position-Some}

pub found-at : (t : List ℕ → Bool) (keys : List (List ℕ)) (id : List ℕ) (r : Option ℕ) → ((k : List ℕ) → t k ≡ true → id ≡ k) → r ≡ position t keys → IfSome r (λ at. slice_get keys at ≡ Some id)
found-at t keys id None sound is = tt
found-at t keys id (Some at) sound is =
    let p = position-Some t keys at id (sym is) in
    slice_get-get_or keys at id p.0 ∙ ap (λ (k : List ℕ). Some k) (sym (sound (get_or keys at id) p.1))

none_passes : (t : List ℕ → Bool) (keys : List (List ℕ)) (i : ℕ) (k : List ℕ) → list_any t keys ≡ false → slice_get keys i ≡ Some k → t k ≡ false
none_passes t [] i k none there = absurd cc
none_passes t (x ∷ xs) zero k none there = let same : x ≡ k = cc in subst (λ (y : List ℕ). t y ≡ false) same (first (t x) (list_any t xs) none)
  where
    first : (a b : Bool) → (a || b) ≡ false → a ≡ false
    first true b e = absurd cc
    first false b e = refl
none_passes t (x ∷ xs) (suc i) k none there = none_passes t xs i k (rest (t x) (list_any t xs) none) there
  where
    rest : (a b : Bool) → (a || b) ≡ false → b ≡ false
    rest true b e = absurd cc
    rest false b e = e

pub absent-from : (t : List ℕ → Bool) (keys : List (List ℕ)) (id : List ℕ) → t id ≡ true → list_any t keys ≡ false → (i : ℕ) → slice_get keys i ≢ Some id
absent-from t keys id passes none i there = false≢true (sym (none_passes t keys i id none there) ∙ passes)

pub absent-all : (t : List ℕ → Bool) (keys : List (List ℕ)) (id : List ℕ) (r : Option ℕ) → is_some r ≡ list_any t keys → t id ≡ true → IfNone r ((i : ℕ) → slice_get keys i ≢ Some id)
absent-all t keys id None none passes = absent-from t keys id passes (sym none)
absent-all t keys id (Some at) none passes = tt

new_key : (t : List ℕ → Bool) (keys : List (List ℕ)) (k : List ℕ) → ((x : List ℕ) → t x ≡ true → k ≡ x) → ((i : ℕ) → slice_get keys i ≢ Some k) → list_any t keys ≡ false
new_key t [] k sound absent = refl
new_key t (x ∷ xs) k sound absent = by_test (t x) refl (new_key t xs k sound (λ i. absent (suc i)))
  where
    by_test : (b : Bool) → t x ≡ b → list_any t xs ≡ false → (b || list_any t xs) ≡ false
    by_test true is rest = absurd (absent 0 (ap (λ (y : List ℕ). Some y) (sym (sound x is))))
    by_test false is rest = rest

-- a new key goes last
pub goes-last : (t : List ℕ → Bool) (keys news : List (List ℕ)) (k : List ℕ) → ((x : List ℕ) → t x ≡ true → k ≡ x) → ((i : ℕ) → slice_get keys i ≢ Some k) → news ≡ cond (list_any t keys) keys (keys ++ k ∷ []) → news ≡ keys ++ k ∷ []
goes-last t keys news k sound absent is = is ∙ rw (new_key t keys k sound absent) refl

pub in-front : (xs : List (List ℕ)) (n i : ℕ) (x : List ℕ) → slice_get (take n xs) i ≡ Some x → (i < n) × (slice_get xs i ≡ Some x)
in-front xs zero i x there = absurd cc
in-front [] (suc n) i x there = absurd cc
in-front (y ∷ xs) (suc n) zero x there = (omega arith, there)
in-front (y ∷ xs) (suc n) (suc i) x there = let rest = in-front xs n i x there in (omega (arith, rest.0), rest.1)

-- the key at a place does not stand before it, where no two are the same
pub not-before : (xs : List (List ℕ)) (n : ℕ) (x : List ℕ) → ((i j : ℕ) (id : List ℕ) → slice_get xs i ≡ Some id → slice_get xs j ≡ Some id → i ≡ j) → slice_get xs n ≡ Some x → (i : ℕ) → slice_get (take n xs) i ≢ Some x
not-before xs n x distinct there i before = let front = in-front xs n i x before in absurd (omega (arith, front.0, distinct i n x front.1 there))
