-- What is taken in turn is one list, and without a circle it is all of them.
use Rattle.std.proofs.Common.{◌≡◌, ℕ, zero, suc, ◌+◌, ◌<◌, Bool, true, false, cond, List, [], ◌∷◌, ◌++◌, length, refl, sym, ap, subst, ◌∙◌, arith}
use Rattle.std.specs.Prelude.{◌||◌, ◌&&◌, ◌==◌, if◌then◌else◌}
use Rattle.std.specs.List.{AllByRecursion, list_all, range_with_len}
use Rattle.std.proofs.lemmas.Bool.{or_left, or_right, and_parts, eq-eqb, eqb-true}
use Rattle.std.proofs.lemmas.List.{append-nil, append_assoc}
use Rattle.compose_agree.specs.declared.order.Order.{Order}
use Rattle.compose_agree.specs.declared.order.Order.TheVariants.{Circle}
use Rattle.compose_agree.specs.Order.{Takes, IsOrder, IsStuck, Ordered, HasPlaces, is_ready, needs_at, all_of, has}

no_truth : {A : Type 0} → true ≡ false → A
no_truth h = absurd cc

module _ {X : Type 0} where
  head_is : (x y : X) (xs ys : List X) → x ∷ xs ≡ y ∷ ys → x ≡ y
  head_is x y xs ys e = grind (arith, e)

  tail_is : (x y : X) (xs ys : List X) → x ∷ xs ≡ y ∷ ys → xs ≡ ys
  tail_is x y xs ys e = grind (arith, e)

  -- the first that passes a test is one thing, at one place
  one_first : (test : X → Bool) (f g : List X) (x y : X) (b c : List X) → AllByRecursion (λ y. test y ≡ false) f → test x ≡ true → AllByRecursion (λ y. test y ≡ false) g → test y ≡ true → f ++ x ∷ b ≡ g ++ y ∷ c
      → (f ≡ g) × (x ≡ y) × (b ≡ c)
  one_first test [] [] x y b c p px q qy e = (refl, head_is x y b c e, tail_is x y b c e)
  one_first test [] (z ∷ g) x y b c p px q qy e = no_truth (sym px ∙ ap test (head_is x z b (g ++ y ∷ c) e) ∙ q.0)
  one_first test (z ∷ f) [] x y b c p px q qy e = no_truth (sym qy ∙ ap test (sym (head_is z y (f ++ x ∷ b) c e)) ∙ p.0)
  one_first test (z ∷ f) (w ∷ g) x y b c p px q qy e =
      let later = one_first test f g x y b c p.1 px q.1 qy (tail_is z w (f ++ x ∷ b) (g ++ y ∷ c) e) in
      (ap (λ u. u ∷ f) (head_is z w (f ++ x ∷ b) (g ++ y ∷ c) e) ∙ ap (λ u. w ∷ u) later.0, later.1, later.2)

  -- none of these passes a test, so the first that passes is not among them
  none_passes : (test : X → Bool) (xs f : List X) (x : X) (b : List X) → AllByRecursion (λ y. test y ≡ false) xs → xs ≡ f ++ x ∷ b → test x ≡ true → ⊥
  none_passes test [] [] x b none e is = absurd cc
  none_passes test [] (z ∷ f) x b none e is = absurd cc
  none_passes test (y ∷ xs) [] x b none e is = no_truth (sym is ∙ ap test (sym (head_is y x xs b e)) ∙ none.0)
  none_passes test (y ∷ xs) (z ∷ f) x b none e is = none_passes test xs f x b none.1 (tail_is y z xs (f ++ x ∷ b) e) is

  -- what is taken until none is ready is one list, and so is what stays
  pub one_turn : (ready : List X → X → Bool) (done left xs ys r s : List X) → Takes ready done left xs r → AllByRecursion (λ y. ready (done ++ xs) y ≡ false) r → Takes ready done left ys s → AllByRecursion (λ y. ready (done ++ ys) y ≡ false) s
      → (xs ≡ ys) × (r ≡ s)
  one_turn ready done left [] [] r s a none b idle = (refl, sym a ∙ b)
  one_turn ready done left [] (y ∷ ys) r s a none b idle =
      let before : AllByRecursion (λ x. ready done x ≡ false) left =
      subst (AllByRecursion (λ x. ready done x ≡ false)) (sym a) (subst (λ (d : List X). AllByRecursion (λ x. ready d x ≡ false) r) (append-nil done) none) in
      absurd (none_passes (ready done) left b.0 y b.1 before b.2 b.4)
  one_turn ready done left (x ∷ xs) [] r s a none b idle =
      let before : AllByRecursion (λ x. ready done x ≡ false) left =
      subst (AllByRecursion (λ x. ready done x ≡ false)) (sym b) (subst (λ (d : List X). AllByRecursion (λ x. ready d x ≡ false) s) (append-nil done) idle) in
      absurd (none_passes (ready done) left a.0 x a.1 before a.2 a.4)
  one_turn ready done left (x ∷ xs) (y ∷ ys) r s a none b idle =
      let same = one_first (ready done) a.0 b.0 x y a.1 b.1 a.3 a.4 b.3 b.4 (sym a.2 ∙ b.2) in
      let moved : Takes ready (done ++ y ∷ []) (b.0 ++ b.1) xs r =
      subst (λ (n : X). Takes ready (done ++ n ∷ []) (b.0 ++ b.1) xs r) same.1 (subst (λ (l : List X). Takes ready (done ++ x ∷ []) l xs r) (ap (λ f. f ++ a.1) same.0 ∙ ap (λ c. b.0 ++ c) same.2) a.5) in
      let behind : done ++ x ∷ xs ≡ (done ++ y ∷ []) ++ xs = ap (λ z. done ++ z ∷ xs) same.1 ∙ sym (append_assoc done (y ∷ []) xs) in
      let later = one_turn ready (done ++ y ∷ []) (b.0 ++ b.1) xs ys r s moved (subst (λ (d : List X). AllByRecursion (λ z. ready d z ≡ false) r) behind none) b.5 (subst (λ (d : List X). AllByRecursion (λ z. ready d z ≡ false) s) (sym (append_assoc done (y ∷ []) ys)) idle) in
      (ap (λ n. n ∷ xs) same.1 ∙ ap (λ l. y ∷ l) later.0, later.1)

  pub one_order : (ready : List X → X → Bool) (all xs ys : List X) → IsOrder ready all xs → IsOrder ready all ys → xs ≡ ys
  one_order ready all xs ys a b = (one_turn ready [] all xs ys [] [] a tt b tt).0

  nothing_is_left : (x : X) (xs : List X) → [] ≡ x ∷ xs → ⊥
  nothing_is_left x xs e = absurd cc

  pub not_stuck : (ready : List X → X → Bool) (all xs : List X) (x : X) → IsOrder ready all xs → IsStuck ready all x → ⊥
  not_stuck ready all xs x a b = nothing_is_left x b.rest (one_turn ready [] all xs b.taken [] (x ∷ b.rest) a tt b.takes b.none).1

  pub one_stuck : (ready : List X → X → Bool) (all : List X) (x y : X) → IsStuck ready all x → IsStuck ready all y → x ≡ y
  one_stuck ready all x y a b = head_is x y a.rest b.rest (one_turn ready [] all a.taken b.taken (x ∷ a.rest) (y ∷ b.rest) a.takes a.none b.takes b.none).1

-- ---- without a circle

has_append : (xs ys : List ℕ) (m : ℕ) → has (xs ++ ys) m ≡ (has xs m || has ys m)
has_append [] ys m = refl
has_append (x ∷ xs) ys m = ap (λ b. (x == m) || b) (has_append xs ys m) ∙ one (x == m)
  where
    one : (a : Bool) → (a || (has xs m || has ys m)) ≡ ((a || has xs m) || has ys m)
    one true = refl
    one false = refl

-- what is not taken stays
still_there : (a b c : Bool) → (a || (b || c)) ≡ true → b ≡ false → (a || c) ≡ true
still_there true b c e f = refl
still_there false b c e f = sym (ap (λ x. x || c) f) ∙ e

neither : (a b : Bool) → (a || b) ≡ false → (a ≡ false) × (b ≡ false)
neither true b e = no_truth e
neither false b e = (refl, e)

stays : (ready : List ℕ → ℕ → Bool) (done left taken rest : List ℕ) (m : ℕ) → Takes ready done left taken rest → has left m ≡ true → has taken m ≡ false → has rest m ≡ true
stays ready done left [] rest m a there none = ap (λ xs. has xs m) (sym a) ∙ there
stays ready done left (x ∷ taken) rest m a there none =
    let apart = neither (x == m) (has taken m) none in
    let cut : (has a.0 m || ((x == m) || has a.1 m)) ≡ true = sym (has_append a.0 (x ∷ a.1) m) ∙ ap (λ xs. has xs m) (sym a.2) ∙ there in
    stays ready (done ++ x ∷ []) (a.0 ++ a.1) taken rest m a.5 (has_append a.0 a.1 m ∙ still_there (has a.0 m) (x == m) (has a.1 m) cut apart.0) apart.1

-- what is not ready needs something that is not taken
unmet : (taken ns : List ℕ) → list_all (has taken) ns ≡ false → (m : ℕ) × (has ns m ≡ true) × (has taken m ≡ false)
unmet taken [] e = no_truth e
unmet taken (n ∷ ns) e = by (has taken n) refl (λ f. unmet taken ns f)
  where
    by : (b : Bool) → has taken n ≡ b → (list_all (has taken) ns ≡ false → (m : ℕ) × (has ns m ≡ true) × (has taken m ≡ false)) → (m : ℕ) × (has (n ∷ ns) m ≡ true) × (has taken m ≡ false)
    by true is further =
        let rest = further (sym (ap (λ c. c && list_all (has taken) ns) is) ∙ e) in
        (rest.0, or_right (n == rest.0) (has ns rest.0) rest.1, rest.2)
    by false is further = (n, or_left (n == n) (has ns n) (eq-eqb n n refl), is)

idle_at : (ready : ℕ → Bool) (rest : List ℕ) (y : ℕ) → AllByRecursion (λ n. ready n ≡ false) rest → has rest y ≡ true → ready y ≡ false
idle_at ready [] y none there = no_truth (sym there)
idle_at ready (n ∷ rest) y none there = by (n == y) refl (λ within. idle_at ready rest y none.1 within)
  where
    by : (b : Bool) → (n == y) ≡ b → (has rest y ≡ true → ready y ≡ false) → ready y ≡ false
    by true is further = ap ready (sym (eqb-true n y is)) ∙ none.0
    by false is further = further (sym (ap (λ b. b || has rest y) is) ∙ there)

-- each that is left needs another that is left, at an earlier place
no_first : (needs : List (List ℕ)) (place : ℕ → ℕ) (taken rest : List ℕ) → HasPlaces needs place → Takes (is_ready needs) [] (all_of needs) taken rest → AllByRecursion (λ n. is_ready needs taken n ≡ false) rest
    → (k y : ℕ) → place y < k → has rest y ≡ true → ⊥
no_first needs place taken rest places takes none zero y below there = omega (arith, below)
no_first needs place taken rest places takes none (suc k) y below there =
    let asks = unmet taken (needs_at needs y) (idle_at (is_ready needs taken) rest y none there) in
    let before = places y asks.0 asks.1 in
    no_first needs place taken rest places takes none k asks.0 (omega (arith, below, before.0)) (stays (is_ready needs) [] (all_of needs) taken rest asks.0 takes before.1 asks.2)

pub never_stuck : (needs : List (List ℕ)) (place : ℕ → ℕ) (n : ℕ) → HasPlaces needs place → IsStuck (is_ready needs) (all_of needs) n → ⊥
never_stuck needs place n places stuck =
    no_first needs place stuck.taken (n ∷ stuck.rest) places stuck.takes stuck.none (suc (place n)) n (omega arith) (or_left (n == n) (has stuck.rest n) (eq-eqb n n refl))

-- ---- an order gives each thing a place

-- the place of the first of a number
abbrev pub place_in : List ℕ → ℕ → ℕ
place_in [] n = 0
place_in (m ∷ ms) n = if m == n then 0 else suc (place_in ms n)

-- where a number is taken first
record IsTakenFirst (ready : List ℕ → ℕ → Bool) (done taken : List ℕ) (n : ℕ) : Type 0 where
  before : List ℕ
  after : List ℕ
  cut : taken ≡ before ++ n ∷ after
  not_before : has before n ≡ false
  is_ready : ready (done ++ before) n ≡ true

taken_first : (ready : List ℕ → ℕ → Bool) (done left taken rest : List ℕ) (n : ℕ) → Takes ready done left taken rest → has taken n ≡ true → IsTakenFirst ready done taken n
taken_first ready done left [] rest n takes there = no_truth (sym there)
taken_first ready done left (x ∷ taken) rest n takes there = by (x == n) refl (λ later. taken_first ready (done ++ x ∷ []) (takes.0 ++ takes.1) taken rest n takes.5 later)
  where
    by : (b : Bool) → (x == n) ≡ b → (has taken n ≡ true → IsTakenFirst ready (done ++ x ∷ []) taken n) → IsTakenFirst ready done (x ∷ taken) n
    by true is further =
        record {
          before = [];
          after = taken;
          cut = ap (λ m. m ∷ taken) (eqb-true x n is);
          not_before = refl;
          is_ready = subst (λ d. ready d n ≡ true) (sym (append-nil done)) (subst (λ m. ready done m ≡ true) (eqb-true x n is) takes.4);
        }
    by false is further =
        let later = further (sym (ap (λ b. b || has taken n) is) ∙ there) in
        record {
          before = x ∷ later.before;
          after = later.after;
          cut = ap (λ ms. x ∷ ms) later.cut;
          not_before = ap (λ b. b || has later.before n) is ∙ later.not_before;
          is_ready = subst (λ d. ready d n ≡ true) (append_assoc done (x ∷ []) later.before) later.is_ready;
        }

place_behind : (before after : List ℕ) (n : ℕ) → has before n ≡ false → place_in (before ++ n ∷ after) n ≡ length before
place_behind [] after n none = ap (λ b. cond b 0 (suc (place_in after n))) (eq-eqb n n refl)
place_behind (x ∷ before) after n none =
    let apart = neither (x == n) (has before n) none in
    ap (λ b. cond b 0 (suc (place_in (before ++ n ∷ after) n))) apart.0 ∙ ap suc (place_behind before after n apart.1)

place_within : (before rest : List ℕ) (m : ℕ) → has before m ≡ true → place_in (before ++ rest) m < length before
place_within [] rest m there = no_truth (sym there)
place_within (x ∷ before) rest m there = by (x == m) refl (λ within. place_within before rest m within)
  where
    by : (b : Bool) → (x == m) ≡ b → (has before m ≡ true → place_in (before ++ rest) m < length before) → cond (x == m) 0 (suc (place_in (before ++ rest) m)) < suc (length before)
    by true is further = subst (λ b. cond b 0 (suc (place_in (before ++ rest) m)) < suc (length before)) (sym is) (omega arith)
    by false is further =
        let less = further (sym (ap (λ b. b || has before m) is) ∙ there) in
        subst (λ b. cond b 0 (suc (place_in (before ++ rest) m)) < suc (length before)) (sym is) (omega (arith, less))

all_met : (taken ns : List ℕ) (m : ℕ) → list_all (has taken) ns ≡ true → has ns m ≡ true → has taken m ≡ true
all_met taken [] m all there = no_truth (sym there)
all_met taken (n ∷ ns) m all there = by (n == m) refl (λ within. all_met taken ns m (and_parts (has taken n) (list_all (has taken) ns) all).1 within)
  where
    by : (b : Bool) → (n == m) ≡ b → (has ns m ≡ true → has taken m ≡ true) → has taken m ≡ true
    by true is further = subst (λ k. has taken k ≡ true) (eqb-true n m is) (and_parts (has taken n) (list_all (has taken) ns) all).0
    by false is further = further (sym (ap (λ b. b || has ns m) is) ∙ there)

-- what is taken was left
was_left : (ready : List ℕ → ℕ → Bool) (done left taken rest : List ℕ) (m : ℕ) → Takes ready done left taken rest → has taken m ≡ true → has left m ≡ true
was_left ready done left [] rest m takes there = no_truth (sym there)
was_left ready done left (x ∷ taken) rest m takes there =
    ap (λ xs. has xs m) takes.2 ∙ has_append takes.0 (x ∷ takes.1) m
    ∙ by (x == m) refl (λ within. sym (has_append takes.0 takes.1 m) ∙ was_left ready (done ++ x ∷ []) (takes.0 ++ takes.1) taken rest m takes.5 within)
  where
    with_it : (a b : Bool) → (a || true) ≡ true
    with_it true b = refl
    with_it false b = refl

    around : (a b c : Bool) → (a || c) ≡ true → (a || (b || c)) ≡ true
    around true b c e = refl
    around false true c e = refl
    around false false c e = e

    by : (b : Bool) → (x == m) ≡ b → (has taken m ≡ true → (has takes.0 m || has takes.1 m) ≡ true) → (has takes.0 m || ((x == m) || has takes.1 m)) ≡ true
    by true is further = ap (λ b. has takes.0 m || (b || has takes.1 m)) is ∙ with_it (has takes.0 m) true
    by false is further = around (has takes.0 m) (x == m) (has takes.1 m) (further (sym (ap (λ b. b || has taken m) is) ∙ there))

nothing_needed : (needs : List (List ℕ)) (a n m : ℕ) → has (range_with_len a (length needs)) (a + n) ≡ false → has (needs_at needs n) m ≡ true → ⊥
nothing_needed [] a n m none there = no_truth (sym there)
nothing_needed (ns ∷ needs) a zero m none there =
    let here : a ≡ a + zero = omega arith in
    no_truth (sym (or_left (a == a + zero) (has (range_with_len (a + 1) (length needs)) (a + zero)) (eq-eqb a (a + zero) here)) ∙ none)
nothing_needed (ns ∷ needs) a (suc n) m none there =
    let moved : a + suc n ≡ (a + 1) + n = omega arith in
    nothing_needed needs (a + 1) n m (ap (λ k. has (range_with_len (a + 1) (length needs)) k) (sym moved) ∙ (neither (a == a + suc n) (has (range_with_len (a + 1) (length needs)) (a + suc n)) none).1) there

pub order_places : (needs : List (List ℕ)) (order : List ℕ) → IsOrder (is_ready needs) (all_of needs) order → HasPlaces needs (place_in order)
order_places needs order takes n m asked = by (has order n) refl
  where
    at : IsTakenFirst (is_ready needs) [] order n → (place_in order m < place_in order n) × (has (all_of needs) m ≡ true)
    at first =
        let met = all_met first.before (needs_at needs n) m first.is_ready asked in
        let less : place_in order m < place_in order n =
        subst (λ o. place_in o m < place_in o n) (sym first.cut) (subst (λ k. place_in (first.before ++ n ∷ first.after) m < k) (sym (place_behind first.before first.after n first.not_before)) (place_within first.before (n ∷ first.after) m met)) in
        let there : has order m ≡ true = ap (λ o. has o m) first.cut ∙ has_append first.before (n ∷ first.after) m ∙ or_left (has first.before m) (has (n ∷ first.after) m) met in
        (less, was_left (is_ready needs) [] (all_of needs) order [] m takes there)

    by : (b : Bool) → has order n ≡ b → (place_in order m < place_in order n) × (has (all_of needs) m ≡ true)
    by true is = at (taken_first (is_ready needs) [] (all_of needs) order [] n takes is)
    by false is = absurd (by_absence (has (all_of needs) n) refl)
      where
        by_absence : (b : Bool) → has (all_of needs) n ≡ b → ⊥
        by_absence true there = no_truth (sym (stays (is_ready needs) [] (all_of needs) order [] n takes there is))
        by_absence false gone = nothing_needed needs 0 n m (let same : 0 + n ≡ n = omega arith in ap (has (all_of needs)) same ∙ gone) asked

pub circle_has_no_places : (needs : List (List ℕ)) (order : Order) (n : ℕ) (place : ℕ → ℕ) → Ordered (is_ready needs) (all_of needs) order → order ≡ Circle n → HasPlaces needs place → ⊥
circle_has_no_places needs order n place is e places = never_stuck needs place n places (subst (Ordered (is_ready needs) (all_of needs)) e is)
