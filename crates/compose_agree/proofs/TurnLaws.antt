-- Taking things in turn.
use Rattle.std.proofs.Common.{◌≡◌, ℕ, zero, suc, ◌+◌, ◌-◌, ◌<◌, ◌≤◌, Bool, true, false, cond, List, [], ◌∷◌, ◌++◌, length, map, take, drop, get_or, Some, nat_lt, Less, Equal, Greater, refl, sym, ap, subst, ◌∙◌, arith, inl, inr}
use Rattle.std.specs.Prelude.{◌||◌, ◌&&◌, ◌==◌, slice_get, Vec}
use Rattle.std.specs.Global.{Global}
use Rattle.std.specs.List.{AllByRecursion, list_all, list_any, range_with_len}
use Rattle.std.specs.Ordering.{nat_cmp, is_eq, is_gt}
use Rattle.std.specs.BTreeSet.{BTreeSet, Updates, contains, btree_set_len}
use Rattle.std.specs.BTreeMap.{BTreeMap, is_at}
use Rattle.std.proofs.lemmas.Bool.{ltb-true, ne_eqb, eqb-true, eq-eqb, and_parts}
use Rattle.std.proofs.lemmas.List.{take_more}
use Rattle.std.proofs.lemmas.List.Folds.{list_any-append}
use Rattle.compose_agree.specs.Order.{has, needs_at, needs_of, is_ready}
use Rattle.compose_agree.specs.Turns.{NoneReady, IsTaken, IsOpenAt, IsOpen, WaitsFor, IsReady, IsSomewhere, AreTurns, thing_of, waiters_of, waits_in}
use Rattle.compose_agree.specs.declared.turns.Waiter.{Waiter}
use Rattle.compose_agree.specs.declared.turns.Open.{Open}
use Rattle.compose_agree.specs.declared.turns.Turns.{Turns}
use Rattle.compose_agree.proofs.LeftLaws.{has_push, has_range}

no_truth : {A : Type 0} → true ≡ false → A
no_truth h = absurd cc

-- ---- sets

pub equal_at : (x n : ℕ) → is_eq (nat_cmp x n) ≡ (x == n)
equal_at x n = by (nat_lt x n) refl
  where
    unlike : (b : Bool) → (x == n) ≡ b → is_eq (cond b Equal Greater) ≡ b
    unlike true e = refl
    unlike false e = refl

    by : (b : Bool) → nat_lt x n ≡ b → is_eq (cond b Less (cond (x == n) Equal Greater)) ≡ (x == n)
    by true e = sym (ne_eqb x n (λ same. let less = ltb-true x n e in absurd (omega (arith, less, same))))
    by false e = unlike (x == n) refl

pub updated : (old new : BTreeSet ℕ) (x : ℕ) (b : Bool) → Updates nat_cmp old new x b → (n : ℕ) → contains nat_cmp new n ≡ cond (x == n) b (contains nat_cmp old n)
updated old new x b u n = u.0 n ∙ ap (λ c. cond c b (contains nat_cmp old n)) (equal_at x n)

pub taken_more : (old new : BTreeSet ℕ) (done : List ℕ) (x : ℕ) → IsTaken old done → Updates nat_cmp old new x true → IsTaken new (done ++ x ∷ [])
taken_more old new done x is added n =
    updated old new x true added n ∙ ap (λ b. cond (x == n) true b) (is n) ∙ sym (has_push done x n)

-- ---- tests of lists

pub prefix_more : (f : ℕ → Bool) (xs : List ℕ) (i d : ℕ) → i < length xs → list_all f (take i xs) ≡ true → f (get_or xs i d) ≡ true → list_all f (take (i + 1) xs) ≡ true
prefix_more f xs i d within before here = ap (list_all f) (take_more xs i d within) ∙ push (take i xs) before
  where
    push : (ys : List ℕ) → list_all f ys ≡ true → list_all f (ys ++ get_or xs i d ∷ []) ≡ true
    push [] e = ap (λ b. b && true) here
    push (y ∷ ys) e = let parts = and_parts (f y) (list_all f ys) e in (λ i. parts.0 i && push ys parts.1 i)

asked_fails : (f : ℕ → Bool) (xs : List ℕ) (i m : ℕ) → slice_get xs i ≡ Some m → f m ≡ false → list_all f xs ≡ false
asked_fails f [] i m at fails = absurd cc
asked_fails f (x ∷ xs) zero m at fails =
    let same : x ≡ m = grind (arith, at) in
    ap (λ b. b && list_all f xs) (ap f same ∙ fails)
asked_fails f (x ∷ xs) (suc i) m at fails = ap (λ b. f x && b) (asked_fails f xs i m at fails) ∙ one (f x)
  where
    one : (b : Bool) → (b && false) ≡ false
    one true = refl
    one false = refl

has_more : (done : List ℕ) (x n : ℕ) → has done n ≡ true → has (done ++ x ∷ []) n ≡ true
has_more done x n e = has_push done x n ∙ ap (λ b. cond (x == n) true b) e ∙ one (x == n)
  where
    one : (b : Bool) → cond b true true ≡ true
    one true = refl
    one false = refl

has_not : (done : List ℕ) (x n : ℕ) → (x == n) ≡ false → has done n ≡ false → has (done ++ x ∷ []) n ≡ false
has_not done x n apart e = has_push done x n ∙ ap (λ b. cond b true (has done n)) apart ∙ e

all_more : (done : List ℕ) (x : ℕ) (ns : List ℕ) → list_all (has done) ns ≡ true → list_all (has (done ++ x ∷ [])) ns ≡ true
all_more done x [] e = refl
all_more done x (n ∷ ns) e =
    let parts = and_parts (has done n) (list_all (has done) ns) e in
    λ i. has_more done x n parts.0 i && all_more done x ns parts.1 i

pub all_after : {X : Type 0} (P Q : X → Type 0) (xs : List X) → ((x : X) → P x → Q x) → AllByRecursion P xs → AllByRecursion Q xs
all_after P Q [] f a = tt
all_after P Q (x ∷ xs) f a = (f x a.0, all_after P Q xs f a.1)

all_push : {X : Type 0} (P : X → Type 0) (xs : List X) (x : X) → AllByRecursion P xs → P x → AllByRecursion P (xs ++ x ∷ [])
all_push P [] x a h = (h, tt)
all_push P (y ∷ xs) x a h = (a.0, all_push P xs x a.1 h)

-- ---- one thing settles

module _ (needs : List (List ℕ)) (done apart : List ℕ) (t : Turns) (w : Waiter) (are : AreTurns needs done (w.thing ∷ apart) t) (o : IsOpen needs done w) where
  pub settles_waiting : (waiting : BTreeMap ℕ (Vec Waiter Global)) (at : Open) → IsOpenAt done (needs_at needs w.thing) at
      → ((n : ℕ) → waiters_of waiting n ≡ cond (at.number == n) (waiters_of t.waiting n ++ record { thing = w.thing; place = at.place } ∷ []) (waiters_of t.waiting n))
      → AreTurns needs done apart (record { taken = t.taken; ready = t.ready; waiting = waiting })
  settles_waiting waiting at is added = record {
    taken = are.taken;
    ready = are.ready;
    waiting = λ m. waits m (at.number == m) refl;
    somewhere = λ n lt. placed n (are.somewhere n lt);
  }
    where
      one_more : (m : ℕ) (b : Bool) → (at.number == m) ≡ b → waiters_of waiting m ≡ cond b (waiters_of t.waiting m ++ record { thing = w.thing; place = at.place } ∷ []) (waiters_of t.waiting m)
      one_more m b e = added m ∙ ap (λ c. cond c (waiters_of t.waiting m ++ record { thing = w.thing; place = at.place } ∷ []) (waiters_of t.waiting m)) e

      itself : WaitsFor needs done at.number (record { thing = w.thing; place = at.place })
      itself = record { is_open = record { there = o.there; left = o.left; before = is.before }; asked = is.at; missing = is.left }

      waits : (m : ℕ) (b : Bool) → (at.number == m) ≡ b → AllByRecursion (WaitsFor needs done m) (waiters_of waiting m)
      waits m true same = subst (AllByRecursion (WaitsFor needs done m)) (sym (one_more m true same))
          (all_push (WaitsFor needs done m) (waiters_of t.waiting m) (record { thing = w.thing; place = at.place }) (are.waiting m) (subst (λ k. WaitsFor needs done k (record { thing = w.thing; place = at.place })) (eqb-true at.number m same) itself))
      waits m false other = subst (AllByRecursion (WaitsFor needs done m)) (sym (one_more m false other)) (are.waiting m)

      or_left : (a b : Bool) → a ≡ true → (a || b) ≡ true
      or_left true b e = refl
      or_left false b e = no_truth (sym e)

      or_right : (a b : Bool) → b ≡ true → (a || b) ≡ true
      or_right true b e = refl
      or_right false b e = e

      kept : (n m : ℕ) (b : Bool) → (at.number == m) ≡ b → waits_in (waiters_of t.waiting m) n ≡ true → waits_in (waiters_of waiting m) n ≡ true
      kept n m true same e = ap (λ ws. waits_in ws n) (one_more m true same) ∙ list_any-append (λ (v : Waiter). v.thing == n) (waiters_of t.waiting m) (record { thing = w.thing; place = at.place } ∷ [])
          ∙ or_left (waits_in (waiters_of t.waiting m) n) (waits_in (record { thing = w.thing; place = at.place } ∷ []) n) e
      kept n m false other e = ap (λ ws. waits_in ws n) (one_more m false other) ∙ e

      here : (n : ℕ) (b : Bool) → (w.thing == n) ≡ b → has (w.thing ∷ apart) n ≡ true → IsSomewhere done apart (record { taken = t.taken; ready = t.ready; waiting = waiting }) n
      here n true same e = inr (inr (inl (
        at.number,
        ap (λ ws. waits_in ws n) (one_more at.number true (eq-eqb at.number at.number refl)) ∙ list_any-append (λ (v : Waiter). v.thing == n) (waiters_of t.waiting at.number) (record { thing = w.thing; place = at.place } ∷ [])
            ∙ or_right (waits_in (waiters_of t.waiting at.number) n) (waits_in (record { thing = w.thing; place = at.place } ∷ []) n) (ap (λ b. b || false) same),
      )))
      here n false other e = inr (inr (inr (sym (ap (λ b. b || has apart n) other) ∙ e)))

      placed : (n : ℕ) → IsSomewhere done (w.thing ∷ apart) t n → IsSomewhere done apart (record { taken = t.taken; ready = t.ready; waiting = waiting }) n
      placed n (inl e) = inl e
      placed n (inr (inl e)) = inr (inl e)
      placed n (inr (inr (inl e))) = inr (inr (inl (e.0, kept n e.0 (at.number == e.0) refl e.1)))
      placed n (inr (inr (inr e))) = here n (w.thing == n) refl e

-- ---- one thing is taken

module _ (needs : List (List ℕ)) (done : List ℕ) (t : Turns) (x : ℕ) (are : AreTurns needs done [] t) (x_is : IsReady needs done x) where
  -- what waits is not the thing that is taken
  not_taken : (m : ℕ) (w : Waiter) → WaitsFor needs done m w → (x == w.thing) ≡ false
  not_taken m w h = ne_eqb x w.thing (λ same. no_truth (sym x_is.met ∙ ap (λ k. list_all (has done) (needs_at needs k)) same ∙ asked_fails (has done) (needs_at needs w.thing) w.place m h.asked h.missing))

  opened : (m : ℕ) (w : Waiter) → WaitsFor needs done m w → IsOpen needs (done ++ x ∷ []) w
  opened m w h = record {
    there = h.is_open.there;
    left = has_not done x w.thing (not_taken m w h) h.is_open.left;
    before = all_more done x (take w.place (needs_at needs w.thing)) h.is_open.before;
  }

  pub all_opened : AllByRecursion (IsOpen needs (done ++ x ∷ [])) (waiters_of t.waiting x)
  all_opened = all_after (WaitsFor needs done x) (IsOpen needs (done ++ x ∷ [])) (waiters_of t.waiting x) (opened x) (are.waiting x)

  pub takes : (taken ready : BTreeSet ℕ) (waiting : BTreeMap ℕ (Vec Waiter Global)) → Updates nat_cmp t.taken taken x true → Updates nat_cmp t.ready ready x false
      → ((n : ℕ) → waiters_of waiting n ≡ cond (x == n) [] (waiters_of t.waiting n))
      → AreTurns needs (done ++ x ∷ []) (map thing_of (waiters_of t.waiting x)) (record { taken = taken; ready = ready; waiting = waiting })
  takes taken ready waiting added removed out = record {
    taken = taken_more t.taken taken done x are.taken added;
    ready = λ n e. ready_at n (x == n) refl e;
    waiting = λ m. waits m (x == m) refl;
    somewhere = λ n lt. placed n (x == n) refl (are.somewhere n lt);
  }
    where
      ready_at : (n : ℕ) (b : Bool) → (x == n) ≡ b → contains nat_cmp ready n ≡ true → IsReady needs (done ++ x ∷ []) n
      ready_at n true same e = no_truth (sym e ∙ updated t.ready ready x false removed n ∙ ap (λ b. cond b false (contains nat_cmp t.ready n)) same)
      ready_at n false other e =
          let was = are.ready n (sym (updated t.ready ready x false removed n ∙ ap (λ b. cond b false (contains nat_cmp t.ready n)) other) ∙ e) in
          record { there = was.there; left = has_not done x n other was.left; met = all_more done x (needs_at needs n) was.met }

      at : (m : ℕ) (b : Bool) → (x == m) ≡ b → waiters_of waiting m ≡ cond b [] (waiters_of t.waiting m)
      at m b e = out m ∙ ap (λ c. cond c [] (waiters_of t.waiting m)) e

      waits : (m : ℕ) (b : Bool) → (x == m) ≡ b → AllByRecursion (WaitsFor needs (done ++ x ∷ []) m) (waiters_of waiting m)
      waits m true same = subst (AllByRecursion (WaitsFor needs (done ++ x ∷ []) m)) (sym (at m true same)) tt
      waits m false other = subst (AllByRecursion (WaitsFor needs (done ++ x ∷ []) m)) (sym (at m false other))
          (all_after (WaitsFor needs done m) (WaitsFor needs (done ++ x ∷ []) m) (waiters_of t.waiting m) (λ w h. record { is_open = opened m w h; asked = h.asked; missing = has_not done x m other h.missing }) (are.waiting m))

      among : (ws : List Waiter) (n : ℕ) → waits_in ws n ≡ true → has (map thing_of ws) n ≡ true
      among [] n e = e
      among (w ∷ ws) n e = one (w.thing == n) e (among ws n)
        where
          one : (b : Bool) → (b || waits_in ws n) ≡ true → (waits_in ws n ≡ true → has (map thing_of ws) n ≡ true) → (b || has (map thing_of ws) n) ≡ true
          one true e h = refl
          one false e h = h e

      waiting_still : (n m : ℕ) (b : Bool) → (x == m) ≡ b → waits_in (waiters_of t.waiting m) n ≡ true → IsSomewhere (done ++ x ∷ []) (map thing_of (waiters_of t.waiting x)) (record { taken = taken; ready = ready; waiting = waiting }) n
      waiting_still n m true same e = inr (inr (inr (among (waiters_of t.waiting x) n (ap (λ k. waits_in (waiters_of t.waiting k) n) (eqb-true x m same) ∙ e))))
      waiting_still n m false other e = inr (inr (inl (m, ap (λ ws. waits_in ws n) (at m false other) ∙ e)))

      placed : (n : ℕ) (b : Bool) → (x == n) ≡ b → IsSomewhere done [] t n → IsSomewhere (done ++ x ∷ []) (map thing_of (waiters_of t.waiting x)) (record { taken = taken; ready = ready; waiting = waiting }) n
      placed n true same s = inl (has_push done x n ∙ ap (λ b. cond b true (has done n)) same)
      placed n false other (inl e) = inl (has_more done x n e)
      placed n false other (inr (inl e)) = inr (inl (updated t.ready ready x false removed n ∙ ap (λ b. cond b false (contains nat_cmp t.ready n)) other ∙ e))
      placed n false other (inr (inr (inl e))) = waiting_still n e.0 (x == e.0) refl e.1
      placed n false other (inr (inr (inr e))) = no_truth (sym e)

-- ---- what is not ready

-- nothing is ready that is not noted so
pub not_ready : (needs : List (List ℕ)) (done : List ℕ) (t : Turns) (n : ℕ) → AreTurns needs done [] t → n < length needs → has done n ≡ false → contains nat_cmp t.ready n ≡ false → is_ready needs done n ≡ false
not_ready needs done t n are lt left idle = by (are.somewhere n lt)
  where
    found : (m : ℕ) (ws : List Waiter) → AllByRecursion (WaitsFor needs done m) ws → waits_in ws n ≡ true → is_ready needs done n ≡ false
    found m [] a e = no_truth (sym e)
    found m (w ∷ ws) a e = one (w.thing == n) refl e (found m ws a.1)
      where
        one : (b : Bool) → (w.thing == n) ≡ b → (b || waits_in ws n) ≡ true → (waits_in ws n ≡ true → is_ready needs done n ≡ false) → is_ready needs done n ≡ false
        one true same e h = ap (λ k. list_all (has done) (needs_at needs k)) (sym (eqb-true w.thing n same)) ∙ asked_fails (has done) (needs_at needs w.thing) w.place m a.0.asked a.0.missing
        one false other e h = h e

    by : IsSomewhere done [] t n → is_ready needs done n ≡ false
    by (inl e) = no_truth (sym e ∙ left)
    by (inr (inl e)) = no_truth (sym e ∙ idle)
    by (inr (inr (inl e))) = found e.0 (waiters_of t.waiting e.0) (are.waiting e.0) e.1
    by (inr (inr (inr e))) = no_truth (sym e)

-- ---- the first turn, and the last

pub length_needs : (needs : List (Vec ℕ Global)) → length (needs_of needs) ≡ length needs
length_needs [] = refl
length_needs (v ∷ needs) = ap suc (length_needs needs)

pub all_index : {X : Type 0} (P : X → Type 0) (xs : List X) (i : ℕ) (d : X) → i < length xs → AllByRecursion P xs → P (get_or xs i d)
all_index P [] i d lt a = absurd (omega (arith, lt))
all_index P (x ∷ xs) zero d lt a = a.0
all_index P (x ∷ xs) (suc i) d lt a = all_index P xs i d (omega (arith, lt)) a.1

pub dropped_all : {X : Type 0} (xs : List X) (i : ℕ) → length xs ≤ i → drop i xs ≡ []
dropped_all [] zero le = refl
dropped_all [] (suc i) le = refl
dropped_all (x ∷ xs) zero le = absurd (omega (arith, le))
dropped_all (x ∷ xs) (suc i) le = dropped_all xs i (omega (arith, le))

pub dropped_at : {X : Type 0} (xs : List X) (i : ℕ) (d : X) → i < length xs → drop i xs ≡ get_or xs i d ∷ drop (i + 1) xs
dropped_at [] i d lt = absurd (omega (arith, lt))
dropped_at (x ∷ xs) zero d lt = refl
dropped_at (x ∷ xs) (suc i) d lt =
    let next : suc i + 1 ≡ suc (i + 1) = omega arith in
    dropped_at xs i d (omega (arith, lt)) ∙ ap (λ j. get_or xs i d ∷ drop j (x ∷ xs)) (sym next)

pub nothing_yet : (needs : List (List ℕ)) (t : Turns) (count : ℕ) → ((n : ℕ) → contains nat_cmp t.taken n ≡ false) → ((n : ℕ) → contains nat_cmp t.ready n ≡ false) → ((m : ℕ) → waiters_of t.waiting m ≡ []) → length needs ≡ count
    → AreTurns needs [] (range_with_len 0 count) t
nothing_yet needs t count none idle empty many = record {
  taken = none;
  ready = λ n e. no_truth (sym e ∙ idle n);
  waiting = λ m. subst (AllByRecursion (WaitsFor needs [] m)) (sym (empty m)) tt;
  somewhere = λ n lt. inr (inr (inr (has_range 0 count n (omega arith) (omega (arith, lt, many)))));
}

pub range_next : (k n : ℕ) → k < n → range_with_len k (n - k) ≡ k ∷ range_with_len (k + 1) (n - (k + 1))
range_next k n lt =
    let far : n - k ≡ suc (n - (k + 1)) = omega (arith, lt) in
    ap (range_with_len k) far

pub starts_open : (needs : List (List ℕ)) (k : ℕ) → k < length needs → IsOpen needs [] (record { thing = k; place = 0 })
starts_open needs k lt = record { there = lt; left = refl; before = refl }

pub idle_turns : (needs : List (List ℕ)) (done : List ℕ) (t : Turns) (ready : BTreeSet ℕ) → AreTurns needs done [] t → ((n : ℕ) → contains nat_cmp t.ready n ≡ false) → ((n : ℕ) → contains nat_cmp ready n ≡ false)
    → NoneReady needs done (record { taken = t.taken; ready = ready; waiting = t.waiting })
idle_turns needs done t ready are idle none = record {
  idle = λ n lt left. not_ready needs done t n are lt left (idle n);
  turns = record {
    taken = are.taken;
    ready = λ n e. no_truth (sym e ∙ none n);
    waiting = are.waiting;
    somewhere = λ n lt. placed n (are.somewhere n lt);
  };
}
  where
    placed : (n : ℕ) → IsSomewhere done [] t n → IsSomewhere done [] (record { taken = t.taken; ready = ready; waiting = t.waiting }) n
    placed n (inl e) = inl e
    placed n (inr (inl e)) = no_truth (sym e ∙ idle n)
    placed n (inr (inr (inl e))) = inr (inr (inl e))
    placed n (inr (inr (inr e))) = inr (inr (inr e))

-- nothing below the least is among the ready
pub not_below : (s : BTreeSet ℕ) (x m : ℕ) → ((q : ℕ) → contains nat_cmp s q ≡ true → is_gt (nat_cmp x q) ≡ false) → m < x → contains nat_cmp s m ≡ false
not_below s x m least lt = by (contains nat_cmp s m) refl
  where
    greater : is_gt (nat_cmp x m) ≡ true
    greater = grind (arith, lt)

    by : (b : Bool) → contains nat_cmp s m ≡ b → b ≡ false
    by true e = no_truth (sym greater ∙ least m e)
    by false e = refl

holds_none : (n : ℕ) (ks : List ℕ) → (0 < length ks → false ≡ true) → list_any (is_at (nat_cmp n)) ks ≡ false
holds_none n [] h = refl
holds_none n (k ∷ ks) h = no_truth (sym (h (omega arith)))

-- a set without keys holds nothing
pub holds_nothing : (s : BTreeSet ℕ) → (0 < btree_set_len s → false ≡ true) → (n : ℕ) → contains nat_cmp s n ≡ false
holds_nothing s h n = holds_none n s.keys h

pub needs_there : (needs : List (Vec ℕ Global)) (n : ℕ) (v : Vec ℕ Global) → n < length needs → v ≡ get_or needs n v → needs_at (needs_of needs) n ≡ v.items
needs_there [] n v lt e = absurd (omega (arith, lt))
needs_there (u ∷ needs) zero v lt e = ap (λ (w : Vec ℕ Global). w.items) (sym e)
needs_there (u ∷ needs) (suc n) v lt e = needs_there needs n v (omega (arith, lt)) e
