-- Where some things wait for each other, one is on a circle.
use Rattle.std.proofs.Common.{◌≡◌, ℕ, zero, suc, ◌+◌, ◌<◌, ◌≤◌, Bool, true, false, List, [], ◌∷◌, ◌++◌, length, refl, sym, ap, subst, ◌∙◌, arith, eqb}
use Rattle.std.specs.Prelude.{◌||◌, ◌&&◌, ◌==◌}
use Rattle.std.specs.List.{AllByRecursion, IsDistinct, list_all, list_any, range_with_len}
use Rattle.std.proofs.lemmas.Bool.{or_left, or_right, eqb-true, eq-eqb, ne_eqb}
use Rattle.std.proofs.lemmas.List.Folds.{list_any-append}
use Rattle.std.proofs.lemmas.Map.Steps.{length-le_from_distinct_below}
use Rattle.compose_agree.specs.Order.{IsStuck, Takes, all_of, has, is_ready, needs_at}
use Rattle.compose_check.specs.Circles.{IsOnCircle, Reaches}
use Rattle.compose_check.proofs.CircleLaws.{either, further}

no_truth : {A : Type 0} → true ≡ false → A
no_truth h = absurd cc

-- ---- what is left

-- what is not taken stays
stays : (ready : List ℕ → ℕ → Bool) (done left taken rest : List ℕ) (m : ℕ) → Takes ready done left taken rest → has left m ≡ true → has taken m ≡ false → has rest m ≡ true
stays ready done left [] rest m a there none = ap (λ xs. has xs m) (sym a) ∙ there
stays ready done left (x ∷ taken) rest m a there none = by (x == m) (has taken m) refl refl (stays ready (done ++ x ∷ []) (a.0 ++ a.1) taken rest m a.5)
  where
    cut : (has a.0 m || ((x == m) || has a.1 m)) ≡ true
    cut = sym (list_any-append (λ n. n == m) a.0 (x ∷ a.1)) ∙ ap (λ xs. has xs m) (sym a.2) ∙ there

    by : (b d : Bool) → (x == m) ≡ b → has taken m ≡ d → (has (a.0 ++ a.1) m ≡ true → has taken m ≡ false → has rest m ≡ true) → has rest m ≡ true
    by true d e f later = no_truth (sym (ap (λ y. y || has taken m) e) ∙ none)
    by false true e f later = no_truth (sym (or_right (x == m) (has taken m) f) ∙ none)
    by false false e f later =
        later (list_any-append (λ n. n == m) a.0 a.1 ∙ sym (ap (λ y. has a.0 m || (y || has a.1 m)) e) ∙ cut) f

-- what is not ready needs something that is not taken
unmet : (taken ns : List ℕ) → list_all (has taken) ns ≡ false → (m : ℕ) × (has ns m ≡ true) × (has taken m ≡ false)
unmet taken [] e = no_truth e
unmet taken (n ∷ ns) e = by (has taken n) refl (λ f. unmet taken ns f)
  where
    by : (b : Bool) → has taken n ≡ b → (list_all (has taken) ns ≡ false → (m : ℕ) × (has ns m ≡ true) × (has taken m ≡ false)) → (m : ℕ) × (has (n ∷ ns) m ≡ true) × (has taken m ≡ false)
    by true is deeper =
        let rest = deeper (sym (ap (λ c. c && list_all (has taken) ns) is) ∙ e) in
        (rest.0, or_right (n == rest.0) (has ns rest.0) rest.1, rest.2)
    by false is deeper = (n, or_left (n == n) (has ns n) (eq-eqb n n refl), is)

idle_at : (ready : ℕ → Bool) (rest : List ℕ) (y : ℕ) → AllByRecursion (λ n. ready n ≡ false) rest → has rest y ≡ true → ready y ≡ false
idle_at ready [] y none there = no_truth (sym there)
idle_at ready (n ∷ rest) y none there =
    either (n == y) (has rest y) there (λ is. ap ready (sym (eqb-true n y is)) ∙ none.0) (λ later. idle_at ready rest y none.1 later)

has_range : (a c n : ℕ) → a ≤ n → n < a + c → has (range_with_len a c) n ≡ true
has_range a zero n l u = absurd (omega (arith, l, u))
has_range a (suc c) n l u = one (a == n) refl (λ more. has_range (a + 1) c n more (omega (arith, u)))
  where
    one : (b : Bool) → (a == n) ≡ b → (a + 1 ≤ n → has (range_with_len (a + 1) c) n ≡ true) → (b || has (range_with_len (a + 1) c) n) ≡ true
    one true e rest = refl
    one false e rest = rest (apart (λ same. no_truth (sym (eq-eqb a n same) ∙ e)))
      where
        apart : (a ≡ n → ⊥) → a + 1 ≤ n
        apart other = omega (arith, l, other)

-- ---- a way that has no end comes back

-- each of these things is there, and needs another of them
record GoOn (needs : List (List ℕ)) (inside : ℕ → Type 0) (count : ℕ) : Type 1 where
  there : (n : ℕ) → inside n → n < count
  onward : (n : ℕ) → inside n → (m : ℕ) × (has (needs_at needs n) m ≡ true) × inside m

eqb_swap : (a b : ℕ) → eqb a b ≡ eqb b a
eqb_swap a b = by (eqb a b) refl
  where
    by : (x : Bool) → eqb a b ≡ x → x ≡ eqb b a
    by true e = sym (eq-eqb b a (sym (eqb-true a b e)))
    by false e = sym (ne_eqb b a (λ same. no_truth (sym (eq-eqb a b (sym same)) ∙ e)))

has_any : (xs : List ℕ) (q : ℕ) → list_any (eqb q) xs ≡ has xs q
has_any [] q = refl
has_any (x ∷ xs) q = λ i. eqb_swap q x i || has_any xs q i

none_same : (xs : List ℕ) (n : ℕ) → has xs n ≡ false → AllByRecursion (λ y. eqb n y ≡ false) xs
none_same [] n e = tt
none_same (x ∷ xs) n e = by (x == n) (has xs n) refl refl (none_same xs n)
  where
    by : (b d : Bool) → (x == n) ≡ b → has xs n ≡ d → (has xs n ≡ false → AllByRecursion (λ y. eqb n y ≡ false) xs) → (eqb n x ≡ false) × AllByRecursion (λ y. eqb n y ≡ false) xs
    by true d f g later = no_truth (sym (ap (λ y. y || has xs n) f) ∙ e)
    by false true f g later = no_truth (sym (or_right (x == n) (has xs n) g) ∙ e)
    by false false f g later = (eqb_swap n x ∙ f, later g)

module _ (needs : List (List ℕ)) (inside : ℕ → Type 0) (count : ℕ) (go : GoOn needs inside count) where
  -- a thing that was come to, and those that were passed on the way
  record IsOnWay (passed : List ℕ) (here : ℕ) : Type 0 where
    distinct : IsDistinct eqb (here ∷ passed)
    are_inside : (n : ℕ) → has (here ∷ passed) n ≡ true → inside n
    lead : (n : ℕ) → has passed n ≡ true → Reaches needs n here

  too_long : (passed : List ℕ) (here : ℕ) → IsOnWay passed here → length (here ∷ passed) ≤ count
  too_long passed here w =
      length-le_from_distinct_below (here ∷ passed) count w.distinct (λ n there. go.there n (w.are_inside n (sym (has_any (here ∷ passed) n) ∙ there)))

  one_on : (passed : List ℕ) (here next : ℕ) → IsOnWay passed here → has (needs_at needs here) next ≡ true → inside next → has (here ∷ passed) next ≡ false → IsOnWay (here ∷ passed) next
  unfolding IsDistinct
  one_on passed here next w step is_in new = record {
    distinct = (none_same (here ∷ passed) next new, w.distinct);
    are_inside = λ n there. either (next == n) (has (here ∷ passed) n) there (λ same. subst inside (eqb-true next n same) is_in) (w.are_inside n);
    lead = λ n there. either (here == n) (has passed n) there (λ same. ([], ap (λ k. has (needs_at needs k) next) (sym (eqb-true here n same)) ∙ step)) (λ before. further needs n here next (w.lead n before) step);
  }

  comes_back : (fuel : ℕ) (passed : List ℕ) (here : ℕ) → IsOnWay passed here → count < fuel + length (here ∷ passed) → (n : ℕ) × IsOnCircle needs n
  comes_back zero passed here w long = absurd (let short = too_long passed here w in omega (arith, long, short))
  comes_back (suc fuel) passed here w long = by (has (here ∷ passed) next.0) refl (λ further_on. comes_back fuel (here ∷ passed) next.0 further_on (omega (arith, long)))
    where
      next : (m : ℕ) × (has (needs_at needs here) m ≡ true) × inside m
      next = go.onward here (w.are_inside here (or_left (here == here) (has passed here) (eq-eqb here here refl)))

      by : (b : Bool) → has (here ∷ passed) next.0 ≡ b → (IsOnWay (here ∷ passed) next.0 → (n : ℕ) × IsOnCircle needs n) → (n : ℕ) × IsOnCircle needs n
      by false new later = later (one_on passed here next.0 w next.1 next.2 new)
      by true old later =
          either (here == next.0) (has passed next.0) old (λ same. (here, ([], ap (has (needs_at needs here)) (eqb-true here next.0 same) ∙ next.1)))
          (λ before. (next.0, further needs next.0 here next.0 (w.lead next.0 before) next.1))

  on_circle : (start : ℕ) → inside start → (n : ℕ) × IsOnCircle needs n
  unfolding IsDistinct
  on_circle start is_in =
      comes_back (suc count) [] start (record {
        distinct = (tt, tt);
        are_inside = λ n there. subst inside (eqb-true start n (either (start == n) false there (λ e. e) (λ e. no_truth (sym e)))) is_in;
        lead = λ n there. no_truth (sym there);
      }) (omega arith)

-- Each thing that is needed is there. Then where some wait for each other, one is on a circle.
pub stuck_has_circle : (needs : List (List ℕ)) (x : ℕ) → ((n m : ℕ) → has (needs_at needs n) m ≡ true → m < length needs) → IsStuck (is_ready needs) (all_of needs) x → (n : ℕ) × IsOnCircle needs n
stuck_has_circle needs x there stuck = on_circle needs inside (length needs) go first.0 first.2
  where
    left : List ℕ
    left = x ∷ stuck.rest

    inside : ℕ → Type 0
    inside n = (has left n ≡ true) × (n < length needs)

    from_left : (n : ℕ) → has left n ≡ true → (m : ℕ) × (has (needs_at needs n) m ≡ true) × inside m
    from_left n is_left =
        let asks = unmet stuck.taken (needs_at needs n) (idle_at (is_ready needs stuck.taken) left n stuck.none is_left) in
        let below = there n asks.0 asks.1 in
        (asks.0, asks.1, (stays (is_ready needs) [] (all_of needs) stuck.taken left asks.0 stuck.takes (has_range 0 (length needs) asks.0 (omega arith) (omega (arith, below))) asks.2, below))

    first : (m : ℕ) × (has (needs_at needs x) m ≡ true) × inside m
    first = from_left x (or_left (x == x) (has stuck.rest x) (eq-eqb x x refl))

    go : GoOn needs inside (length needs)
    go = record { there = λ n i. i.1; onward = λ n i. from_left n i.0 }
