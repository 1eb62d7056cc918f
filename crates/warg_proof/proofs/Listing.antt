-- Looking a node up in an ascending list.
use Rattle.std.proofs.Common.{◌≡◌, ◌⊎◌, ℕ, zero, suc, ◌+◌, ◌<◌, true, false, eqb, ltb, ◌&&◌, List, [], ◌∷◌, length, get_or, Some, None, Ordering, refl, sym, ap, ◌∙◌, inl, inr, arith}
use Rattle.std.specs.Ordering.{nat_cmp, ordering_then, ordering_index, is_lt}
use Rattle.std.specs.declared.cmp.Ordering.TheVariants.{Less, Equal, Greater}
use Rattle.std.specs.Cmp.{IsTotalOrder, then_total, on_total, nat_cmp_total}
use Rattle.std.specs.List.Sorted.{IsNonDecreasingBy, IsPartitionPoint}
use Rattle.std.proofs.lemmas.List.Sorted.{searchable_from_sorted}
use Rattle.std.proofs.lemmas.Bool.{cases_Bool, and_parts, and_from, and_left, and_right, or_cases, or_left, or_right, cond-true, cond-false, ltb-true, eqb-true, lt-ltb, le-ltb, eq-eqb, ne_eqb, cases_order, cases_lt}
use Rattle.warg_proof.specs.declared.node.Node.{Node}
use Rattle.warg_proof.specs.LogProofs.{comes_before, before_first, is_ascending, listed}

-- where a node stands
abbrev pub key_of : Node → ℕ × ℕ
key_of node = (node.level, node.place)

abbrev pub key_cmp : ℕ × ℕ → ℕ × ℕ → Ordering
key_cmp x y = ordering_then (nat_cmp x.0 y.0) (nat_cmp x.1 y.1)

key_total : IsTotalOrder key_cmp
key_total = then_total (on_total (λ (x : ℕ × ℕ). x.0) nat_cmp_total) (on_total (λ (x : ℕ × ℕ). x.1) nat_cmp_total)

-- what a node that comes before another says in numbers
before_is : (a b : Node) → comes_before a b ≡ true → (a.level < b.level) ⊎ ((a.level ≡ b.level) × (a.place < b.place))
before_is a b h =
    elim (or_cases (ltb a.level b.level) (eqb a.level b.level && ltb a.place b.place) h) [
      | inl lower ↦ inl (ltb-true _ _ lower)
      | inr same ↦ let both = and_parts (eqb a.level b.level) (ltb a.place b.place) same in inr (eqb-true _ _ both.0, ltb-true _ _ both.1)
    ]

before_if : (a b : Node) → (a.level < b.level) ⊎ ((a.level ≡ b.level) × (a.place < b.place)) → comes_before a b ≡ true
before_if a b (inl lower) = or_left (ltb a.level b.level) (eqb a.level b.level && ltb a.place b.place) (lt-ltb _ _ lower)
before_if a b (inr same) = or_right (ltb a.level b.level) (eqb a.level b.level && ltb a.place b.place) (and_from (eqb a.level b.level) (ltb a.place b.place) (eq-eqb _ _ same.0) (lt-ltb _ _ same.1))

before_trans : (a b c : Node) → comes_before a b ≡ true → comes_before b c ≡ true → comes_before a c ≡ true
before_trans a b c h k =
    before_if a c (elim (before_is a b h) [
      | inl p ↦ elim (before_is b c k) [ inl q ↦ inl (omega arith) | inr q ↦ let same = q.0 in inl (omega arith) ]
      | inr p ↦ elim (before_is b c k) [
        | inl q ↦ let same = p.0 in inl (omega arith)
        | inr q ↦ let one = p.0 in let two = q.0 in let low = p.1 in let high = q.1 in inr (omega arith, omega arith)
      ]
    ])

greater : (x y : ℕ) → y < x → nat_cmp x y ≡ Greater
greater x y lt = cond-false (ltb x y) _ _ (le-ltb _ _ (omega arith)) ∙ cond-false (eqb x y) _ _ (ne_eqb _ _ (λ e. omega arith))

tied : (x y : ℕ) → x ≡ y → nat_cmp x y ≡ Equal
tied x y e = cond-false (ltb x y) _ _ (le-ltb _ _ (omega arith)) ∙ cond-true (eqb x y) _ _ (eq-eqb _ _ e)

not_after : (a b : Node) → comes_before a b ≡ true → is_lt (key_cmp (key_of b) (key_of a)) ≡ false
not_after a b h =
    elim (before_is a b h) [
      | inl lower ↦ ap (λ (o : Ordering). is_lt (ordering_then o (nat_cmp b.place a.place))) (greater b.level a.level lower)
      | inr same ↦ ap (λ (o : Ordering). is_lt (ordering_then o (nat_cmp b.place a.place))) (tied b.level a.level (sym same.0)) ∙ ap is_lt (greater b.place a.place same.1)
    ]

-- each node of an ascending list comes before the next, and the first before all others
ascending-next : (nodes : List Node) → is_ascending nodes ≡ true → (k : ℕ) (d : Node) → k + 1 < length nodes → comes_before (get_or nodes k d) (get_or nodes (k + 1) d) ≡ true
unfolding is_ascending
ascending-next [] h k d lt = absurd (omega arith)
ascending-next (node ∷ []) h k d lt = absurd (omega arith)
ascending-next (node ∷ next ∷ nodes) h zero d lt = (and_parts (comes_before node next) (is_ascending (next ∷ nodes)) h).0
ascending-next (node ∷ next ∷ nodes) h (suc k) d lt =
    let up : suc k + 1 ≡ suc (k + 1) = omega arith in
    ap (λ (i : ℕ). comes_before (get_or (next ∷ nodes) k d) (get_or (node ∷ next ∷ nodes) i d)) up
    ∙ ascending-next (next ∷ nodes) (and_parts (comes_before node next) (is_ascending (next ∷ nodes)) h).1 k d (omega arith)

ascending-rest : (node : Node) (nodes : List Node) → is_ascending (node ∷ nodes) ≡ true → is_ascending nodes ≡ true
unfolding is_ascending
ascending-rest node nodes h = (and_parts (before_first node nodes) (is_ascending nodes) h).1

first_before : (node : Node) (nodes : List Node) → is_ascending (node ∷ nodes) ≡ true → (k : ℕ) (d : Node) → k < length nodes → comes_before node (get_or nodes k d) ≡ true
unfolding is_ascending
first_before node [] h k d lt = absurd (omega arith)
first_before node (next ∷ nodes) h zero d lt = (and_parts (comes_before node next) (is_ascending (next ∷ nodes)) h).0
first_before node (next ∷ nodes) h (suc k) d lt =
    let parts = and_parts (comes_before node next) (is_ascending (next ∷ nodes)) h in
    before_trans node next (get_or nodes k d) parts.0 (first_before next nodes parts.1 k d (omega arith))

-- the keys may be searched for any key
pub searchable : (nodes : List Node) (key : ℕ × ℕ) → is_ascending nodes ≡ true → IsNonDecreasingBy (λ node. ordering_index (key_cmp (key_of node) key)) nodes
searchable nodes key h =
    searchable_from_sorted key_total key_of nodes key (λ k d low lt. not_after (get_or nodes k d) (get_or nodes (k + 1) d) (ascending-next nodes h k d lt))

-- ---- what the search found

less≢equal : Less ≡ Equal → ⊥
less≢equal e = cc

greater≢equal : Greater ≡ Equal → ⊥
greater≢equal e = cc

less_is : (x y : ℕ) → x < y → (then : Ordering) → ordering_then (nat_cmp x y) then ≡ Equal → ⊥
less_is x y lt then e = less≢equal (sym (ap (λ (o : Ordering). ordering_then o then) (cond-true (ltb x y) _ _ (lt-ltb _ _ lt))) ∙ e)

greater_is : (x y : ℕ) → y < x → (then : Ordering) → ordering_then (nat_cmp x y) then ≡ Equal → ⊥
greater_is x y lt then e = greater≢equal (sym (ap (λ (o : Ordering). ordering_then o then) (greater x y lt)) ∙ e)

not_tied : (x y : ℕ) → (x < y) ⊎ (y < x) → nat_cmp x y ≡ Equal → ⊥
not_tied x y (inl lt) e = less≢equal (sym (cond-true (ltb x y) _ _ (lt-ltb _ _ lt)) ∙ e)
not_tied x y (inr lt) e = greater≢equal (sym (greater x y lt) ∙ e)

cmp_equal : (x y : ℕ × ℕ) → key_cmp x y ≡ Equal → (x.0 ≡ y.0) × (x.1 ≡ y.1)
cmp_equal x y e =
    elim (cases_order x.0 y.0) [
      | inl same ↦ elim (cases_order x.1 y.1) [
        | inl too ↦ (same, too)
        | inr apart ↦ absurd (not_tied x.1 y.1 apart (sym (ap (λ (o : Ordering). ordering_then o (nat_cmp x.1 y.1)) (tied x.0 y.0 same)) ∙ e))
      ]
      | inr apart ↦ elim apart [
        | inl lower ↦ absurd (less_is x.0 y.0 lower (nat_cmp x.1 y.1) e)
        | inr higher ↦ absurd (greater_is x.0 y.0 higher (nat_cmp x.1 y.1) e)
      ]
    ]

-- the first node at a place is the one found there
pub listed_at : (nodes : List Node) (k : ℕ) (d : Node) (level place : ℕ) → is_ascending nodes ≡ true → k < length nodes → key_cmp (key_of (get_or nodes k d)) (level, place) ≡ Equal → listed nodes level place ≡ Some (get_or nodes k d).hash
unfolding listed
listed_at [] k d level place h lt e = absurd (omega arith)
listed_at (node ∷ nodes) zero d level place h lt e =
    let same = cmp_equal (key_of node) (level, place) e in
    cond-true (eqb node.level level && eqb node.place place) _ _ (and_from (eqb node.level level) (eqb node.place place) (eq-eqb _ _ same.0) (eq-eqb _ _ same.1))
listed_at (node ∷ nodes) (suc k) d level place h lt e =
    let found = get_or nodes k d in
    let same = cmp_equal (key_of found) (level, place) e in
    let before = first_before node nodes h k d (omega arith) in
    let other : (eqb node.level level && eqb node.place place) ≡ false =
    elim (before_is node found before) [
      | inl lower ↦ let one = same.0 in and_left (eqb node.level level) (eqb node.place place) (ne_eqb _ _ (λ is. omega arith))
      | inr low ↦ let two = same.1 in let less = low.1 in and_right (eqb node.level level) (eqb node.place place) (ne_eqb _ _ (λ is. omega arith))
    ] in
    cond-false (eqb node.level level && eqb node.place place) _ _ other ∙ listed_at nodes k d level place (ascending-rest node nodes h) (omega arith) e

-- nothing is listed where no key is equal
none_listed : (nodes : List Node) (level place : ℕ) → ((k : ℕ) (d : Node) → k < length nodes → key_cmp (key_of (get_or nodes k d)) (level, place) ≡ Equal → ⊥) → listed nodes level place ≡ None
unfolding listed
none_listed [] level place h = refl
none_listed (node ∷ nodes) level place h =
    let other : (eqb node.level level && eqb node.place place) ≡ false =
    elim (cases_Bool (eqb node.level level && eqb node.place place)) [
      | inl is ↦ let both = and_parts (eqb node.level level) (eqb node.place place) is in
          absurd (h 0 node (omega arith) (ap (λ (o : Ordering). ordering_then o (nat_cmp node.place place)) (tied node.level level (eqb-true _ _ both.0)) ∙ tied node.place place (eqb-true _ _ both.1)))
      | inr apart ↦ apart
    ] in
    cond-false (eqb node.level level && eqb node.place place) _ _ other ∙ none_listed nodes level place (λ k d lt. h (suc k) d (omega arith))

pub not_listed : (nodes : List Node) (at level place : ℕ) → IsPartitionPoint (λ node. key_cmp (key_of node) (level, place) ≡ Less) (λ node. key_cmp (key_of node) (level, place) ≡ Greater) nodes at → listed nodes level place ≡ None
not_listed nodes at level place point =
    none_listed nodes level place (λ k d lt e.
    elim (cases_lt k at) [
      | inl below ↦ less≢equal (sym (point.0 k d (omega arith) below) ∙ e)
      | inr above ↦ greater≢equal (sym (point.1 k d above lt) ∙ e)
    ])
