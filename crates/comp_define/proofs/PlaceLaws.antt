-- Laws of the places of numbers among others, and of first mentions.
use Rattle.std.specs.Prelude.{◌≡◌, ℕ, zero, suc, ◌+◌, ◌<◌, ◌≤◌, Bool, true, false, cond, not, ◌||◌, ◌==◌, nat_lt, List, [], ◌∷◌, ◌++◌, length, Some, None, unwrap_or, refl}
use Rattle.std.specs.List.{list_any, fold, position_or_len}
use Rattle.std.proofs.Common.{sym, ◌∙◌, ap, arith, length-append, append_assoc, append-nil}
use Rattle.std.proofs.lemmas.Bool.{eqb-true, eq-eqb}
use Rattle.std.proofs.lemmas.Bool.Decides.{nat_tests}
use Rattle.comp_define.specs.Orders.{below}

no_truth : {A : Type 0} → true ≡ false → A
no_truth h = absurd cc

abbrev pub has : List ℕ → ℕ → Bool
has seen n = list_any (λ m. m == n) seen

abbrev pub with_one : List ℕ → ℕ → List ℕ
with_one seen n = cond (has seen n) seen (seen ++ n ∷ [])

-- the place of a number among others, or how many there are
abbrev pub place : List ℕ → ℕ → ℕ
place xs n = position_or_len (λ m. m == n) xs

abbrev pub place_of : ℕ → ℕ → ℕ
place_of p count = unwrap_or (cond (nat_lt p count) (Some p) None) count

pub place_within : (xs : List ℕ) (n : ℕ) → place xs n ≤ length xs
place_within [] n = omega arith
place_within (x ∷ xs) n = by (x == n) (place_within xs n)
  where
    by : (b : Bool) → place xs n ≤ length xs → cond (not b) (1 + place xs n) 0 ≤ suc (length xs)
    by true h = omega arith
    by false h = omega (arith, h)

pub place_is : (xs : List ℕ) (n : ℕ) → place_of (place xs n) (length xs) ≡ place xs n
place_is xs n = by (nat_lt (place xs n) (length xs)) refl (place_within xs n)
  where
    by : (b : Bool) → nat_lt (place xs n) (length xs) ≡ b → place xs n ≤ length xs → unwrap_or (cond b (Some (place xs n)) None) (length xs) ≡ place xs n
    by true e h = refl
    by false e h = grind (arith, nat_tests)

pub any_append : (n : ℕ) (xs ys : List ℕ) → has (xs ++ ys) n ≡ (has xs n || has ys n)
any_append n [] ys = refl
any_append n (x ∷ xs) ys = ap (λ b. (x == n) || b) (any_append n xs ys) ∙ by (x == n)
  where
    by : (b : Bool) → (b || (has xs n || has ys n)) ≡ ((b || has xs n) || has ys n)
    by true = refl
    by false = refl

place_append : (n : ℕ) (xs ys : List ℕ) → place (xs ++ ys) n ≡ cond (has xs n) (place xs n) (length xs + place ys n)
place_append n [] ys = omega arith
place_append n (x ∷ xs) ys = by (x == n) (place_append n xs ys)
  where
    in_rest : (c : Bool) → 1 + cond c (place xs n) (length xs + place ys n) ≡ cond c (1 + place xs n) (suc (length xs) + place ys n)
    in_rest true = refl
    in_rest false = omega arith

    by : (b : Bool) → place (xs ++ ys) n ≡ cond (has xs n) (place xs n) (length xs + place ys n) → cond (not b) (1 + place (xs ++ ys) n) 0 ≡ cond (b || has xs n) (cond (not b) (1 + place xs n) 0) (suc (length xs) + place ys n)
    by true h = refl
    by false h = ap (λ k. 1 + k) h ∙ in_rest (has xs n)

place_below : (n : ℕ) (xs : List ℕ) → has xs n ≡ true → place xs n < length xs
place_below n [] there = no_truth (sym there)
place_below n (x ∷ xs) there = by (x == n) there (place_below n xs)
  where
    by : (b : Bool) → (b || has xs n) ≡ true → (has xs n ≡ true → place xs n < length xs) → cond (not b) (1 + place xs n) 0 < suc (length xs)
    by true e h = omega arith
    by false e h = let k = h e in omega (arith, k)

-- ---- the numbers below one, in order

pub length_below : (k : ℕ) → length (below k) ≡ k
length_below zero = refl
length_below (suc k) = let h = length_below k in let e = length-append (below k) (k ∷ []) in omega (arith, h, e)

pub has_below : (k n : ℕ) → has (below k) n ≡ nat_lt n k
has_below zero n = grind (arith, nat_tests)
has_below (suc k) n = any_append n (below k) (k ∷ []) ∙ ap (λ b. b || ((k == n) || false)) (has_below k n) ∙ by (nat_lt n k) refl (k == n) refl
  where
    by : (b : Bool) → nat_lt n k ≡ b → (c : Bool) → (k == n) ≡ c → (b || (c || false)) ≡ nat_lt n (suc k)
    by true e c h = grind (arith, nat_tests)
    by false e true h = grind (arith, nat_tests)
    by false e false h = grind (arith, nat_tests)

pub place_in_below : (k n : ℕ) → n ≤ k → place (below k) n ≡ n
place_in_below zero n le = omega (arith, le)
place_in_below (suc k) n le =
    place_append n (below k) (k ∷ []) ∙ ap (λ b. cond b (place (below k) n) (length (below k) + cond (not (k == n)) (1 + 0) 0)) (has_below k n) ∙ by (nat_lt n k) refl (k == n) refl (place_in_below k n)
  where
    by : (b : Bool) → nat_lt n k ≡ b → (c : Bool) → (k == n) ≡ c → (n ≤ k → place (below k) n ≡ n) → cond b (place (below k) n) (length (below k) + cond (not c) (1 + 0) 0) ≡ n
    by true e c h in_front = let small : n ≤ k = grind (arith, nat_tests) in in_front small
    by false e true h in_front = let l = length_below k in let same : k ≡ n = eqb-true k n h in omega (arith, l, same)
    by false e false h in_front = let l = length_below k in let past : n ≡ suc k = grind (arith, nat_tests) in omega (arith, l, past)

-- ---- the places of numbers in the order of their first mentions

abbrev pub Grows : List ℕ → List ℕ → Type 0
Grows seen ns = (rest : List ℕ) × (fold with_one seen ns ≡ seen ++ rest)

pub grows : (seen ns : List ℕ) → Grows seen ns
grows seen [] = ([], sym (append-nil seen))
grows seen (n ∷ ns) = by (has seen n) (grows seen ns) (grows (seen ++ n ∷ []) ns)
  where
    by : (b : Bool) → Grows seen ns → Grows (seen ++ n ∷ []) ns → (rest : List ℕ) × (fold with_one (cond b seen (seen ++ n ∷ [])) ns ≡ seen ++ rest)
    by true h k = (h.0, h.1)
    by false h k = (n ∷ k.0, k.1 ∙ append_assoc seen (n ∷ []) k.0)

-- a number that was there has a place below, and one that is new has the next
pub old_place : (n : ℕ) (seen rest : List ℕ) → has seen n ≡ true → nat_lt (place (seen ++ rest) n) (length seen) ≡ true
old_place n seen rest there =
    let here : place (seen ++ rest) n ≡ place seen n = place_append n seen rest ∙ ap (λ b. cond b (place seen n) (length seen + place rest n)) there in
    let small = place_below n seen there in
    ap (λ k. nat_lt k (length seen)) here ∙ grind (arith, nat_tests)

itself : (n : ℕ) → place (n ∷ []) n ≡ 0
itself n = ap (λ b. cond (not b) (1 + 0) 0) (eq-eqb n n refl)

pub now_there : (n : ℕ) (seen : List ℕ) → has (seen ++ n ∷ []) n ≡ true
now_there n seen = any_append n seen (n ∷ []) ∙ ap (λ b. has seen n || (b || false)) (eq-eqb n n refl) ∙ by (has seen n)
  where
    by : (b : Bool) → (b || (true || false)) ≡ true
    by true = refl
    by false = refl

pub new_place : (n : ℕ) (seen rest : List ℕ) → has seen n ≡ false → place ((seen ++ n ∷ []) ++ rest) n ≡ length seen
new_place n seen rest new =
    let z = itself n in
    let last : place (seen ++ n ∷ []) n ≡ length seen + place (n ∷ []) n = place_append n seen (n ∷ []) ∙ ap (λ b. cond b (place seen n) (length seen + place (n ∷ []) n)) new in
    let sum : length seen + place (n ∷ []) n ≡ length seen = ap (λ k. length seen + k) z ∙ omega arith in
    place_append n (seen ++ n ∷ []) rest ∙ ap (λ b. cond b (place (seen ++ n ∷ []) n) (length (seen ++ n ∷ []) + place rest n)) (now_there n seen) ∙ last ∙ sum
