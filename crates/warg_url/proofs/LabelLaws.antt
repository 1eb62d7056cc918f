-- What stands before the slashes at the end of a path.
use Rattle.std.proofs.Common.{◌≡◌, ◌≢◌, ◌≤◌, ◌+◌, ◌==◌, ℕ, false, List, [], ◌∷◌, ◌++◌, length, get_or, take, ◌∙◌, ap, arith}
use Rattle.std.specs.Prelude.{reverse}
use Rattle.std.proofs.lemmas.Bool.{eqb-true, false_from_ne_true}
use Rattle.std.proofs.lemmas.List.{reverse-append, reverse-reverse, take_more}
use Rattle.warg_url.specs.Label.{after_slashes, before_slashes}

slash_goes : (front : List ℕ) → before_slashes (front ++ 47 ∷ []) ≡ before_slashes front
unfolding after_slashes
slash_goes front = ap (λ (r : List ℕ). reverse (after_slashes r)) (reverse-append front (47 ∷ []))

other_stays : (front : List ℕ) (x : ℕ) → (x == 47) ≡ false → before_slashes (front ++ x ∷ []) ≡ front ++ x ∷ []
unfolding after_slashes
other_stays front x other =
    ap (λ (r : List ℕ). reverse (after_slashes r)) (reverse-append front (x ∷ []))
    ∙ rw other (reverse-append (x ∷ []) (reverse front) ∙ ap (λ (r : List ℕ). r ++ x ∷ []) (reverse-reverse front))

-- a slash at the end goes
pub goes : (path : List ℕ) (end n : ℕ) → end ≡ n + 1 → end ≤ length path → get_or path n 0 ≡ 47 → before_slashes (take end path) ≡ before_slashes (take n path)
goes path end n e le is = rw (e, take_more path n 0 (omega (arith, e, le)), is) (slash_goes (take n path))

-- what ends with another byte stays
pub stays : (path : List ℕ) (end n : ℕ) → end ≡ n + 1 → end ≤ length path → get_or path n 0 ≢ 47 → before_slashes (take end path) ≡ take end path
stays path end n e le other =
    let is : (get_or path n 0 == 47) ≡ false = false_from_ne_true _ (λ t. other (eqb-true (get_or path n 0) 47 t)) in
    rw (e, take_more path n 0 (omega (arith, e, le))) (other_stays (take n path) (get_or path n 0) is)
