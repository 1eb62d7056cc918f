-- The numbers that trees mention: they are below the counts of mentions, and each has a place in the order of first
-- mentions.
use Rattle.std.proofs.Common.{◌≡◌, ℕ, suc, ◌+◌, ◌≤◌, ◌<◌, Bool, true, false, cond, List, [], ◌∷◌, ◌++◌, length, get_or, Some, None, refl, ap, arith}
use Rattle.std.specs.Prelude.{nat_lt, flat_map, max, not, ◌==◌, ◌||◌}
use Rattle.std.specs.List.{AllByRecursion, fold, list_any, position, position_or_len}
use Rattle.std.proofs.Math.Nat.{le-max_left, le-max_right}
use Rattle.std.proofs.lemmas.Bool.{eqb-true}
use Rattle.std.proofs.lemmas.List.Quantifiers.{position-Some}
use Rattle.comp_entity.specs.Entity.{Name}
use Rattle.comp_entity.specs.Names.{Mention, OfResource, OfPlace, numbers_at, resource_at, place_at, beyond}
use Rattle.comp_scope.specs.Closing.{first_mentions}
use Rattle.comp_coherence.specs.Coherence.{outward}
use Rattle.comp_coherence.proofs.Changes.{Asked, front, back, weaker}

-- ---- below the count

abbrev more_than : ℕ → ℕ → ℕ
more_than most n = max most (suc n)

beyond_from : (most : ℕ) (ns : List ℕ) → (most ≤ fold more_than most ns) × AllByRecursion (λ n. n < fold more_than most ns) ns
beyond_from most [] = (omega arith, tt)
beyond_from most (n ∷ ns) =
    let rest = beyond_from (max most (suc n)) ns in
    let left : most ≤ max most (suc n) = le-max_left most (suc n) in
    let right : suc n ≤ max most (suc n) = le-max_right most (suc n) in
    let over : max most (suc n) ≤ fold more_than (max most (suc n)) ns = rest.0 in
    (omega arith, (omega arith, rest.1))

pub below_beyond : (ns : List ℕ) → AllByRecursion (λ n. nat_lt n (beyond ns) ≡ true) ns
below_beyond ns = weaker (λ n. n < beyond ns) (λ n. nat_lt n (beyond ns) ≡ true) (λ n lt. grind arith) ns (beyond_from 0 ns).1

-- ---- in the order

abbrev is_number : ℕ → ℕ → Bool
is_number n m = m == n

abbrev seen_with : List ℕ → ℕ → List ℕ
seen_with seen n = cond (list_any (is_number n) seen) seen (seen ++ n ∷ [])

any_front : (p : ℕ → Bool) (xs ys : List ℕ) → list_any p xs ≡ true → list_any p (xs ++ ys) ≡ true
any_front p [] ys h = absurd cc
any_front p (x ∷ xs) ys h = of (p x) h (any_front p xs ys)
  where
    of : (b : Bool) → (b || list_any p xs) ≡ true → (list_any p xs ≡ true → list_any p (xs ++ ys) ≡ true) → (b || list_any p (xs ++ ys)) ≡ true
    of true h rest = refl
    of false h rest = rest h

any_last : (p : ℕ → Bool) (xs : List ℕ) (x : ℕ) → p x ≡ true → list_any p (xs ++ x ∷ []) ≡ true
any_last p [] x h = ap (λ b. b || false) h
any_last p (y ∷ xs) x h = of (p y) (any_last p xs x h)
  where
    of : (b : Bool) → list_any p (xs ++ x ∷ []) ≡ true → (b || list_any p (xs ++ x ∷ [])) ≡ true
    of true rest = refl
    of false rest = rest

still_seen : (n : ℕ) (seen : List ℕ) (m : ℕ) → list_any (is_number n) seen ≡ true → list_any (is_number n) (seen_with seen m) ≡ true
still_seen n seen m h = of (list_any (is_number m) seen)
  where
    of : (b : Bool) → list_any (is_number n) (cond b seen (seen ++ m ∷ [])) ≡ true
    of true = h
    of false = any_front (is_number n) seen (m ∷ []) h

now_seen : (n : ℕ) (seen : List ℕ) → list_any (is_number n) (seen_with seen n) ≡ true
now_seen n seen = of (list_any (is_number n) seen) refl
  where
    of : (b : Bool) → list_any (is_number n) seen ≡ b → list_any (is_number n) (cond b seen (seen ++ n ∷ [])) ≡ true
    of true h = h
    of false h = any_last (is_number n) seen n (grind arith)

seen_later : (n : ℕ) (seen ns : List ℕ) → list_any (is_number n) seen ≡ true → list_any (is_number n) (fold seen_with seen ns) ≡ true
seen_later n seen [] h = h
seen_later n seen (m ∷ ns) h = seen_later n (seen_with seen m) ns (still_seen n seen m h)

all_seen : (seen ns : List ℕ) → AllByRecursion (λ n. list_any (is_number n) (fold seen_with seen ns) ≡ true) ns
all_seen seen [] = tt
all_seen seen (n ∷ ns) = (seen_later n (seen_with seen n) ns (now_seen n seen), all_seen (seen_with seen n) ns)

-- what stands in an order
abbrev pub Ordered : List ℕ → ℕ → Type 0
Ordered order n = (i : ℕ) × (position (λ m. m == n) order ≡ Some i) × (get_or order i 0 ≡ n)

position_within : (p : ℕ → Bool) (xs : List ℕ) → list_any p xs ≡ true → nat_lt (position_or_len p xs) (length xs) ≡ true
position_within p [] h = absurd cc
position_within p (x ∷ xs) h = of (p x) h (position_within p xs)
  where
    of : (b : Bool) → (b || list_any p xs) ≡ true → (list_any p xs ≡ true → nat_lt (position_or_len p xs) (length xs) ≡ true) → nat_lt (cond (not b) (1 + position_or_len p xs) 0) (suc (length xs)) ≡ true
    of true h rest = grind arith
    of false h rest = let within : nat_lt (position_or_len p xs) (length xs) ≡ true = rest h in grind arith

ordered : (order : List ℕ) (n : ℕ) → list_any (is_number n) order ≡ true → Ordered order n
ordered order n h =
    let i : ℕ = position_or_len (is_number n) order in
    let is : position (is_number n) order ≡ Some i = ap (λ b. cond b (Some i) None) (position_within (is_number n) order h) in
    (i, is, eqb-true (get_or order i 0) n (position-Some (is_number n) order i 0 is).1)

pub all_ordered : (ns : List ℕ) → AllByRecursion (Ordered (first_mentions ns)) ns
all_ordered ns = weaker (λ n. list_any (is_number n) (first_mentions ns) ≡ true) (Ordered (first_mentions ns)) (ordered (first_mentions ns)) ns (all_seen [] ns)

-- ---- mentions

abbrev pub Numbered : ℕ → (ℕ → Type 0) → Name → Type 0
Numbered out P n = n.out ≡ out → P n.number

at_number : (P : ℕ → Type 0) (out d : ℕ) (n : Name) → AllByRecursion P (numbers_at out d n) → d ≤ n.out → Numbered out P (outward d n)
at_number P out d n h le is = of (n.out == out + d) refl h
  where
    of : (b : Bool) → (n.out == out + d) ≡ b → AllByRecursion P (cond b (n.number ∷ []) []) → P n.number
    of true e h = h.0
    of false e h = let same : n.out ≡ out + d = omega arith in absurd (grind arith)

module _ (f g : Name → Name) (mark : Bool → Bool) (out : ℕ) (Resources Places : ℕ → Type 0) where
  pub numbers_asked : (ms : List (ℕ × Mention)) → AllByRecursion Resources (flat_map (resource_at out) ms) → AllByRecursion Places (flat_map (place_at out) ms) → AllByRecursion (Asked f g mark (Numbered out Resources) (Numbered out Places)) ms
  numbers_asked [] r p = tt
  numbers_asked ((d, OfResource n) ∷ ms) r p = (at_number Resources out d n (front Resources (numbers_at out d n) _ r), numbers_asked ms (back Resources (numbers_at out d n) _ r) p)
  numbers_asked ((d, OfPlace n) ∷ ms) r p = (at_number Places out d n (front Places (numbers_at out d n) _ p), numbers_asked ms r (back Places (numbers_at out d n) _ p))
