-- Ways between things, and the list of those to which ways lead.
use Rattle.std.proofs.Common.{◌≡◌, ℕ, suc, ◌+◌, ◌<◌, ◌≤◌, Bool, true, false, cond, List, [], ◌∷◌, ◌++◌, length, take, refl, sym, ap, subst, ◌∙◌, arith, get_or, length-append, inl, inr}
use Rattle.std.specs.Prelude.{◌⊎◌, ◌||◌, ◌==◌, not}
use Rattle.std.specs.Ordering.{nat_cmp}
use Rattle.std.specs.Cmp.{unsigned_ties}
use Rattle.std.specs.BTreeSet.{BTreeSet, Updates, contains}
use Rattle.std.proofs.lemmas.Bool.{or_left, or_right, eqb-true, eq-eqb, cases_lt}
use Rattle.std.proofs.lemmas.List.{get_or_past, append-nil, append_assoc, take_all, take_more, take-append-le}
use Rattle.std.proofs.lemmas.List.Sums.{fold_more}
use Rattle.std.proofs.lemmas.List.Folds.{list_any-append, list_any_at}
use Rattle.compose_agree.specs.Order.{has, needs_at}
use Rattle.compose_check.specs.Circles.{IsOnCircle, Leads, Reaches}
use Rattle.compose_check.specs.Spread.{Holds, Spreads, with_number, with_numbers}

or_last : (a b : Bool) → cond b true a ≡ (a || (b || false))
or_last true true = refl
or_last true false = refl
or_last false true = refl
or_last false false = refl

pub has_push : (ns : List ℕ) (x n : ℕ) → has (ns ++ x ∷ []) n ≡ cond (x == n) true (has ns n)
has_push ns x n = list_any-append (λ m. m == n) ns (x ∷ []) ∙ sym (or_last (has ns n) (x == n))

-- whether a number is added or not, it is there then
with_has : (ns : List ℕ) (x n : ℕ) → has (with_number ns x) n ≡ cond (x == n) true (has ns n)
with_has ns x n = by (has ns x) refl
  where
    same : (b : Bool) → (x == n) ≡ b → has ns x ≡ true → has ns n ≡ cond b true (has ns n)
    same true e there = ap (has ns) (sym (eqb-true x n e)) ∙ there
    same false e there = refl

    by : (b : Bool) → has ns x ≡ b → has (cond b ns (ns ++ x ∷ [])) n ≡ cond (x == n) true (has ns n)
    by true there = same (x == n) refl there
    by false none = has_push ns x n

pub holds_more : (old new : BTreeSet ℕ) (ns : List ℕ) (x : ℕ) → Holds old ns → Updates nat_cmp old new x true → Holds new (with_number ns x)
holds_more old new ns x h u n = u.0 n ∙ (λ i. cond (sym (unsigned_ties x n) i) true (h n i)) ∙ sym (with_has ns x n)

-- the list goes on as the set tells
pub pushed : (set : BTreeSet ℕ) (ns : List ℕ) (x : ℕ) → Holds set ns → true ≡ not (contains nat_cmp set x) → ns ++ x ∷ [] ≡ with_number ns x
pushed set ns x h new = by (has ns x) (h x)
  where
    by : (b : Bool) → contains nat_cmp set x ≡ b → ns ++ x ∷ [] ≡ cond b ns (ns ++ x ∷ [])
    by true e = absurd (let bad : true ≡ false = new ∙ ap not e in cc)
    by false e = refl

pub not_pushed : (set : BTreeSet ℕ) (ns : List ℕ) (x : ℕ) → Holds set ns → false ≡ not (contains nat_cmp set x) → ns ≡ with_number ns x
not_pushed set ns x h old = by (has ns x) (h x)
  where
    by : (b : Bool) → contains nat_cmp set x ≡ b → ns ≡ cond b ns (ns ++ x ∷ [])
    by true e = refl
    by false e = absurd (let bad : false ≡ true = old ∙ ap not e in cc)

pub either : {P : Type 0} (a b : Bool) → (a || b) ≡ true → (a ≡ true → P) → (b ≡ true → P) → P
either true b e first last = first refl
either false b e first last = last e

-- what is there once some numbers were added, where they were not
all_there : (ns ms : List ℕ) (n : ℕ) → has (with_numbers ns ms) n ≡ (has ns n || has ms n)
all_there ns [] n = by (has ns n)
  where
    by : (b : Bool) → b ≡ (b || false)
    by true = refl
    by false = refl
all_there ns (m ∷ ms) n = all_there (with_number ns m) ms n ∙ ap (λ b. b || has ms n) (with_has ns m n) ∙ by (m == n) (has ns n)
  where
    by : (a b : Bool) → (cond a true b || has ms n) ≡ (b || (a || has ms n))
    by true true = refl
    by true false = refl
    by false b = refl

-- numbers are added behind the others
behind : (ns ms : List ℕ) → (more : List ℕ) × (with_numbers ns ms ≡ ns ++ more)
behind ns [] = ([], sym (append-nil ns))
behind ns (m ∷ ms) = by (has ns m) (behind ns ms) (behind (ns ++ m ∷ []) ms)
  where
    by : (b : Bool) → (more : List ℕ) × (with_numbers ns ms ≡ ns ++ more) → (more : List ℕ) × (with_numbers (ns ++ m ∷ []) ms ≡ (ns ++ m ∷ []) ++ more)
        → (more : List ℕ) × (with_numbers (cond b ns (ns ++ m ∷ [])) ms ≡ ns ++ more)
    by true old new = old
    by false old new = (m ∷ new.0, new.1 ∙ append_assoc ns (m ∷ []) new.0)

-- ---- ways

-- a way and one step more
pub onward : (needs : List (List ℕ)) (n : ℕ) (ms : List ℕ) (m end : ℕ) → Leads needs n ms m → has (needs_at needs m) end ≡ true → Leads needs n (ms ++ m ∷ []) end
onward needs n [] m end first step = (first, step)
onward needs n (x ∷ ms) m end way step = (way.0, onward needs x ms m end way.1 step)

pub further : (needs : List (List ℕ)) (n m end : ℕ) → Reaches needs n m → has (needs_at needs m) end ≡ true → Reaches needs n end
further needs n m end way step = (way.0 ++ m ∷ [], onward needs n way.0 m end way.1 step)

-- a way does not leave what is closed
stays : (needs : List (List ℕ)) (inside : ℕ → Type 0) → ((n m : ℕ) → inside n → has (needs_at needs n) m ≡ true → inside m) → (n : ℕ) (ms : List ℕ) (end : ℕ) → inside n → Leads needs n ms end → inside end
stays needs inside closed n [] end here way = closed n end here way
stays needs inside closed n (m ∷ ms) end here way = stays needs inside closed m ms end (closed n m here way.0) way.1

-- ---- the list of those to which ways lead

pub spreads_first : (needs : List (List ℕ)) (from : ℕ) (things : List ℕ) → things ≡ with_numbers [] (needs_at needs from) → Spreads needs from 0 things
spreads_first needs from things is = record {
  reached = λ n there. ([], sym (all n) ∙ there);
  first = λ m there. all m ∙ there;
  closed = λ n m there step. absurd (let bad : false ≡ true = there in cc);
}
  where
    all : (n : ℕ) → has things n ≡ has (needs_at needs from) n
    all n = ap (λ ns. has ns n) is ∙ all_there [] (needs_at needs from) n

module _ (needs : List (List ℕ)) (from next : ℕ) (old new : List ℕ) (thing : ℕ) (below : next < length old) (at : thing ≡ get_or old next thing) (is : new ≡ with_numbers old (needs_at needs thing)) (s : Spreads needs from next old) where
  all_in : (n : ℕ) → has new n ≡ (has old n || has (needs_at needs thing) n)
  all_in n = ap (λ ns. has ns n) is ∙ all_there old (needs_at needs thing) n

  thing_in : has old thing ≡ true
  thing_in = list_any_at (λ m. m == thing) old next thing below (eq-eqb (get_or old next thing) thing (sym at))

  kept : (n : ℕ) → has old n ≡ true → has new n ≡ true
  kept n there = all_in n ∙ or_left (has old n) (has (needs_at needs thing) n) there

  added : (n : ℕ) → has (needs_at needs thing) n ≡ true → has new n ≡ true
  added n there = all_in n ∙ or_right (has old n) (has (needs_at needs thing) n) there

  front : take (next + 1) new ≡ take next old ++ thing ∷ []
  front =
      let more = behind old (needs_at needs thing) in
      ap (take (next + 1)) (is ∙ more.1) ∙ take-append-le (next + 1) old more.0 (omega (arith, below)) ∙ take_more old next thing below ∙ ap (λ x. take next old ++ x ∷ []) (sym at)

  pub spreads_more : Spreads needs from (next + 1) new
  spreads_more = record {
    reached = λ n there. either (has old n) (has (needs_at needs thing) n) (sym (all_in n) ∙ there) (s.reached n) (further needs from thing n (s.reached thing thing_in));
    first = λ m there. kept m (s.first m there);
    closed = λ n m there step. by n m (thing == n) refl (sym (has_push (take next old) thing n) ∙ sym (ap (λ ns. has ns n) front) ∙ there) step;
  }
    where
      by : (n m : ℕ) (b : Bool) → (thing == n) ≡ b → cond (thing == n) true (has (take next old) n) ≡ true → has (needs_at needs n) m ≡ true → has new m ≡ true
      by n m true e there step = added m (ap (λ k. has (needs_at needs k) m) (eqb-true thing n e) ∙ step)
      by n m false e there step = kept m (s.closed n m (sym (ap (λ b. cond b true (has (take next old) n)) e) ∙ there) step)

-- once all is looked at, the list has all to which ways lead
pub all_reached : (needs : List (List ℕ)) (from next : ℕ) (things : List ℕ) → length things ≤ next → Spreads needs from next things → (n : ℕ) → Reaches needs from n → has things n ≡ true
all_reached needs from next things past s n way = by way.0 way.1
  where
    closed : (n m : ℕ) → has things n ≡ true → has (needs_at needs n) m ≡ true → has things m ≡ true
    closed n m there step = s.closed n m (ap (λ ns. has ns n) (take_all next things past) ∙ there) step

    by : (ms : List ℕ) → Leads needs from ms n → has things n ≡ true
    by [] step = s.first n step
    by (m ∷ ms) way = stays needs (λ k. has things k ≡ true) closed m ms n (s.first m way.0) way.1

-- a number is added to the list and the set, or is there already
pub one_added : (old new : BTreeSet ℕ) (before ns after : List ℕ) (i x : ℕ) (xs : List ℕ) → i < length xs → x ≡ get_or xs i 0 → ns ≡ with_numbers before (take i xs) → Holds old ns → Updates nat_cmp old new x true → after ≡ with_number ns x
    → (after ≡ with_numbers before (take (i + 1) xs)) × Holds new after
one_added old new before ns after i x xs below at so_far holds updates is = (
  is ∙ ap (λ ms. with_number ms x) so_far ∙ ap (with_number (with_numbers before (take i xs))) at ∙ sym (fold_more with_number before xs i 0 below),
  subst (Holds new) (sym is) (holds_more old new ns x holds updates),
)

pub not_shorter : (old new ms : List ℕ) → new ≡ with_numbers old ms → length old ≤ length new
not_shorter old new ms is =
    let more = behind old ms in
    let long = ap length (is ∙ more.1) ∙ length-append old more.0 in
    omega (arith, long)

-- ---- circles

-- what is no thing needs nothing
pub no_circle_past : (needs : List (List ℕ)) (n : ℕ) → length needs ≤ n → IsOnCircle needs n → ⊥
no_circle_past needs n past circle = by circle.0 circle.1
  where
    nothing : (m : ℕ) → has (needs_at needs n) m ≡ true → ⊥
    nothing m step = absurd (let bad : false ≡ true = sym (ap (λ ns. has ns m) (get_or_past needs n [] past)) ∙ step in cc)

    by : (ms : List ℕ) → Leads needs n ms n → ⊥
    by [] way = nothing n way
    by (m ∷ ms) way = nothing m way.0

-- the last one that is not excluded
pub last_is : (needs : List (List ℕ)) (k : ℕ) → ((n : ℕ) → suc k ≤ n → IsOnCircle needs n → ⊥) → (n : ℕ) → IsOnCircle needs n → n ≤ k
last_is needs k none n circle = by (cases_lt k n)
  where
    by : (k < n) ⊎ (n ≤ k) → n ≤ k
    by (inl beyond) = absurd (none n (omega (arith, beyond)) circle)
    by (inr within) = within

pub one_less : (needs : List (List ℕ)) (k : ℕ) → ((n : ℕ) → suc k ≤ n → IsOnCircle needs n → ⊥) → (IsOnCircle needs k → ⊥) → (n : ℕ) → k ≤ n → IsOnCircle needs n → ⊥
one_less needs k none here n from circle = by (cases_lt k n)
  where
    by : (k < n) ⊎ (n ≤ k) → ⊥
    by (inl beyond) = none n (omega (arith, beyond)) circle
    by (inr within) = let same : n ≡ k = omega (arith, from, within) in here (subst (IsOnCircle needs) same circle)
