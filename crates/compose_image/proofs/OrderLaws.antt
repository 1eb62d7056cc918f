-- Orders: each of what is put in order has one place, and what it needs stands in front of it.
use Rattle.std.proofs.Common.{◌≡◌, ◌∙◌, ◌⊎◌, inl, inr, ℕ, zero, suc, ◌+◌, ◌<◌, ◌≤◌, Bool, true, false, cond, List, [], ◌∷◌, ◌++◌, length, map, filter, refl, sym, ap, subst, arith}
use Rattle.std.specs.Prelude.{◌==◌, ◌||◌}
use Rattle.std.specs.List.{AllByRecursion, count_by, flat_map, list_all, range_with_len}
use Rattle.std.proofs.lemmas.Bool.{and_parts, eq-eqb, cases_eq, cases_lt, ne_eqb, or_left, or_right}
use Rattle.std.proofs.lemmas.List.{get_or-map, length-map}
use Rattle.std.proofs.lemmas.List.FromFn.{get_or-range_with_len, length-range_with_len}
use Rattle.std.proofs.lemmas.List.Sums.{sum_by-append}
use Rattle.compose_agree.specs.Order.{IsOrder, Takes, all_of, has, is_ready, needs_at}
use Rattle.compose_left.specs.declared.wiring.Wire.{Wire}
use Rattle.compose_check.specs.Composition.{CompositionTree, goes_to, source_of, sources_of}
use Rattle.compose_check.specs.Checked.{sources}
use Rattle.compose_image.specs.Instances.{comes_from, first_ones, rank, wires_of}
use Rattle.compose_image.proofs.ListLaws.{all_append, all_filter}

-- ---- how often a number stands in a list

abbrev pub is_same : ℕ → ℕ → Bool
is_same n m = m == n

abbrev pub count_one : Bool → ℕ
count_one b = cond b 1 0

-- one number, or two
abbrev pub OneOrTwo : ℕ → ℕ → Type 0
OneOrTwo n m = ((m ≡ n) × (count_one (is_same n m) ≡ 1)) ⊎ ((m ≡ n → ⊥) × (count_one (is_same n m) ≡ 0))

abbrev pub times : ℕ → List ℕ → ℕ
times n ns = count_by (is_same n) ns

pub times_append : (n : ℕ) (xs ys : List ℕ) → times n (xs ++ ys) ≡ times n xs + times n ys
times_append n xs ys = sum_by-append (λ m. cond (is_same n m) 1 0) xs ys

pub times_before : (n m : ℕ) (xs : List ℕ) → times n (m ∷ xs) ≡ cond (is_same n m) 1 0 + times n xs
times_before n m xs = times_append n (m ∷ []) xs ∙ ap (λ k. k + times n xs) (by (is_same n m))
  where
    by : (b : Bool) → 0 + cond b 1 0 ≡ cond b 1 0
    by true = refl
    by false = refl

pub times_first : (n : ℕ) (xs : List ℕ) → times n (n ∷ xs) ≡ 1 + times n xs
times_first n xs = times_before n n xs ∙ ap (λ b. count_one b + times n xs) (eq-eqb n n refl)

-- what stands there, stands there once at least
has_times : (n : ℕ) (xs : List ℕ) → 0 < times n xs → has xs n ≡ true
has_times n [] h = absurd (omega (arith, h))
has_times n (m ∷ xs) h = by (is_same n m) refl (λ k. has_times n xs k)
  where
    by : (b : Bool) → is_same n m ≡ b → (0 < times n xs → has xs n ≡ true) → (is_same n m || has xs n) ≡ true
    by true e more = or_left (is_same n m) (has xs n) e
    by false e more = or_right (is_same n m) (has xs n) (more (omega (arith, h, times_before n m xs, ap count_one e)))

-- what is taken, and what stays, is what there was
takes_times : (ready : List ℕ → ℕ → Bool) (n : ℕ) (done left taken rest : List ℕ) → Takes ready done left taken rest
    → times n left ≡ times n taken + times n rest
takes_times ready n done left [] rest t = ap (times n) t ∙ omega arith
takes_times ready n done left (x ∷ taken) rest t =
    omega (
      arith,
      ap (times n) t.2,
      times_append n t.0 (x ∷ t.1),
      times_before n x t.1,
      times_before n x taken,
      times_append n
          t.0 t.1,
      takes_times ready n (done ++ x ∷ []) (t.0 ++ t.1) taken rest t.5,
    )

-- numbers one behind the other
pub one_or_two : (n m : ℕ) → OneOrTwo n m
one_or_two n m = by (cases_eq m n)
  where
    by : (m ≡ n) ⊎ (m ≡ n → ⊥) → OneOrTwo n m
    by (inl e) = inl (e, ap count_one (eq-eqb m n e))
    by (inr e) = inr (e, ap count_one (ne_eqb m n e))

times_below : (n a k : ℕ) → n < a → times n (range_with_len a k) ≡ 0
times_below n a zero lt = refl
times_below n a (suc k) lt = by (one_or_two n a) (times_below n (a + 1) k (omega (arith, lt)))
  where
    by : OneOrTwo n a → times n (range_with_len (a + 1) k) ≡ 0 → times n (range_with_len a (suc k)) ≡ 0
    by (inl e) later = absurd (omega (arith, e.0, lt))
    by (inr e) later = omega (arith, e.1, later, times_before n a (range_with_len (a + 1) k))

times_within : (n a k : ℕ) → a ≤ n → n < a + k → times n (range_with_len a k) ≡ 1
times_within n a zero low high = absurd (omega (arith, low, high))
times_within n a (suc k) low high = by (one_or_two n a) (λ less. times_within n (a + 1) k less (omega (arith, high)))
  where
    by : OneOrTwo n a → (a + 1 ≤ n → times n (range_with_len (a + 1) k) ≡ 1) → times n (range_with_len a (suc k)) ≡ 1
    by (inl e) later =
        omega (arith, e.1, times_below n (a + 1) k (omega (arith, e.0)), times_before n a (range_with_len (a + 1) k))
    by (inr e) later = omega (arith, e.1, later (le_next e.0), times_before n a (range_with_len (a + 1) k))
      where
        le_next : (a ≡ n → ⊥) → a + 1 ≤ n
        le_next apart = omega (arith, low, apart)

times_above : (n a k : ℕ) → a + k ≤ n → times n (range_with_len a k) ≡ 0
times_above n a zero high = refl
times_above n a (suc k) high = by (one_or_two n a) (times_above n (a + 1) k (omega (arith, high)))
  where
    by : OneOrTwo n a → times n (range_with_len (a + 1) k) ≡ 0 → times n (range_with_len a (suc k)) ≡ 0
    by (inl e) later = absurd (omega (arith, e.0, high))
    by (inr e) later = omega (arith, e.1, later, times_before n a (range_with_len (a + 1) k))

pub has_range : (n k : ℕ) → n < k → has (range_with_len 0 k) n ≡ true
has_range n k lt =
    has_times n (range_with_len 0 k) (omega (arith, times_within n 0 k (omega arith) (omega (arith, lt))))

-- ---- orders of numbers

module _ (needs : List (List ℕ)) (order : List ℕ) (o : IsOrder (is_ready needs) (all_of needs) order) where
  whole : (n : ℕ) → times n (range_with_len 0 (length needs)) ≡ times n order
  whole n = omega (arith, takes_times (is_ready needs) n [] (all_of needs) order [] o)

  -- each has one place
  pub once : (n : ℕ) → times n order ≤ 1
  once n = by (cases_lt n (length needs))
    where
      by : (n < length needs) ⊎ (length needs ≤ n) → times n order ≤ 1
      by (inl lt) = omega (arith, whole n, times_within n 0 (length needs) (omega arith) (omega (arith, lt)))
      by (inr ge) = omega (arith, whole n, times_above n 0 (length needs) (omega (arith, ge)))

  pub is_in_order : (n : ℕ) → n < length needs → has order n ≡ true
  is_in_order n lt =
      has_times n order (omega (arith, whole n, times_within n 0 (length needs) (omega arith) (omega (arith, lt))))

  pub is_there : (n : ℕ) → 0 < times n order → n < length needs
  is_there n some = by (cases_lt n (length needs))
    where
      by : (n < length needs) ⊎ (length needs ≤ n) → n < length needs
      by (inl lt) = lt
      by (inr ge) = absurd (omega (arith, some, whole n, times_above n 0 (length needs) (omega (arith, ge))))

-- ---- places in an order

-- what is not among those in front has its place behind them
pub rank_behind : (n : ℕ) (done rest : List ℕ) → times n done ≡ 0 → rank n (done ++ n ∷ rest) ≡ length done
rank_behind n [] rest h = ap (λ b. cond b 0 (suc (rank n rest))) (eq-eqb n n refl)
rank_behind n (m ∷ done) rest h = by (one_or_two n m) (λ none. rank_behind n done rest none)
  where
    by : OneOrTwo n m → (times n done ≡ 0 → rank n (done ++ n ∷ rest) ≡ length done)
        → rank n (m ∷ done ++ n ∷ rest) ≡ suc (length done)
    by (inl e) later = absurd (omega (arith, h, times_before n m done, e.1))
    by (inr e) later =
        ap (λ b. cond b 0 (suc (rank n (done ++ n ∷ rest)))) (ne_eqb m n e.0)
        ∙ ap suc (later (omega (arith, h, times_before n m done)))

-- what is in an order has a place in it
pub rank_within : (n : ℕ) (ns : List ℕ) → has ns n ≡ true → rank n ns < length ns
rank_within n [] h = absurd cc
rank_within n (m ∷ ns) h = by (is_same n m) refl (λ there. rank_within n ns there)
  where
    by : (b : Bool) → is_same n m ≡ b → (has ns n ≡ true → rank n ns < length ns)
        → cond (is_same n m) 0 (suc (rank n ns)) < suc (length ns)
    by true e later = subst (λ b. cond b 0 (suc (rank n ns)) < suc (length ns)) (sym e) (omega arith)
    by false e later =
        subst (λ b. cond b 0 (suc (rank n ns)) < suc (length ns)) (sym e)
        (omega (arith, later (sym (ap (λ b. b || has ns n) e) ∙ h)))

-- ---- what an instance is given

pub length-sources : (c : CompositionTree) → length (sources c) ≡ length c.instances
length-sources c =
    length-map (range_with_len 0 (length c.instances)) (sources_of c.wires)
    ∙ length-range_with_len 0 (length c.instances)

-- the sources of the wires into an instance
sources_at : (c : CompositionTree) (i : ℕ) → i < length c.instances → needs_at (sources c) i ≡ sources_of c.wires i
sources_at c i lt =
    get_or-map (sources_of c.wires) (range_with_len 0 (length c.instances)) i 0 []
    (omega (arith, lt, length-range_with_len 0 (length c.instances)))
    ∙ ap (sources_of c.wires) (get_or-range_with_len 0 (length c.instances) i 0 lt ∙ omega arith)

-- each is done
abbrev pub ComesFrom : List ℕ → Wire → Type 0
ComesFrom done w = has done w.source ≡ true

each_done : (done : List ℕ) (ws : List Wire) → list_all (has done) (map source_of ws) ≡ true
    → AllByRecursion (ComesFrom done) ws
each_done done [] h = tt
each_done done (w ∷ ws) h =
    let parts = and_parts (has done w.source) (list_all (has done) (map source_of ws)) h in
    (parts.0, each_done done ws parts.1)

by_sources : (done : List ℕ) (ws : List Wire) (ns : List ℕ) → AllByRecursion (ComesFrom done) ws
    → AllByRecursion (ComesFrom done) (flat_map (λ source. filter (comes_from source) ws) ns)
by_sources done ws [] a = tt
by_sources done ws (n ∷ ns) a =
    all_append (ComesFrom done) (filter (comes_from n) ws) _ (all_filter (ComesFrom done) (comes_from n) ws a)
    (by_sources done ws ns a)

pub sources_done : (c : CompositionTree) (done : List ℕ) (i : ℕ) → i < length c.instances
    → is_ready (sources c) done i ≡ true → AllByRecursion (ComesFrom done) (wires_of c i)
sources_done c done i lt h =
    by_sources done (filter (goes_to i) c.wires) (first_ones [] (map source_of (filter (goes_to i) c.wires)))
    (each_done done (filter (goes_to i) c.wires) (ap (list_all (has done)) (sym (sources_at c i lt)) ∙ h))
