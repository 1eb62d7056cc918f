-- Lists of numbers and of wires, one element more each time.
use Rattle.std.proofs.Common.{◌≡◌, ◌∙◌, ℕ, zero, suc, ◌+◌, ◌<◌, ◌||◌, Bool, true, false, cond, List, [], ◌∷◌, ◌++◌, length, map, take, get_or, refl, sym, ap, arith}
use Rattle.std.specs.Prelude.{◌==◌, filter, flat_map, is_some, Vec}
use Rattle.std.specs.BTreeMap.{BTreeMap, get}
use Rattle.std.specs.BTreeSet.{BTreeSet, contains, Updates}
use Rattle.std.specs.Cmp.{unsigned_ties}
use Rattle.std.specs.Global.{Global}
use Rattle.std.specs.List.{list_any, range_with_len}
use Rattle.std.specs.Ordering.{nat_cmp}
use Rattle.std.proofs.lemmas.Bool.{eq-eqb, eqb-true}
use Rattle.std.proofs.lemmas.List.{append-nil, append_assoc, map-append, take_more}
use Rattle.std.proofs.lemmas.List.Elements.{filter-append}
use Rattle.std.proofs.lemmas.List.Folds.{list_any-append}
use Rattle.compose_agree.specs.Order.{has}
use Rattle.compose_check.specs.Composition.{goes_to, source_of}
use Rattle.compose_left.specs.declared.wiring.Wire.{Wire}
use Rattle.compose_image.specs.Instances.{comes_from, first_ones, rank}
use Rattle.compose_encode.specs.Held.{AreSources, wires_at}
use Rattle.compose_encode.specs.declared.wires.Sources.{Sources}

-- ---- numbers

or_last : (a b : Bool) → (a || (b || false)) ≡ cond b true a
or_last true true = refl
or_last true false = refl
or_last false true = refl
or_last false false = refl

pub has_push : (ns : List ℕ) (x n : ℕ) → has (ns ++ x ∷ []) n ≡ cond (x == n) true (has ns n)
has_push ns x n = list_any-append (λ m. m == n) ns (x ∷ []) ∙ or_last (has ns n) (x == n)

pub set_more : (old new : BTreeSet ℕ) (ns : List ℕ) (i d : ℕ) → i < length ns → ((n : ℕ) → contains nat_cmp old n ≡ has (take i ns) n) → Updates nat_cmp old new (get_or ns i d) true
    → (n : ℕ) → contains nat_cmp new n ≡ has (take (i + 1) ns) n
set_more old new ns i d lt h u n =
    u.0 n ∙ (λ k. cond (sym (unsigned_ties (get_or ns i d) n) k) true (h n k)) ∙ sym (ap (λ ms. has ms n) (take_more ns i d lt) ∙ has_push (take i ns) (get_or ns i d) n)

pub range_push : (a n j : ℕ) → a + n ≡ j → range_with_len a (suc n) ≡ range_with_len a n ++ j ∷ []
range_push a zero j e = let same : a ≡ j = omega (arith, e) in ap (λ x. x ∷ []) same
range_push a (suc n) j e = let next : (a + 1) + n ≡ j = omega (arith, e) in ap (λ l. a ∷ l) (range_push (a + 1) n j next)

pub filter_push : {X : Type 0} (p : X → Bool) (xs : List X) (x : X) → filter p (xs ++ x ∷ []) ≡ cond (p x) (filter p xs ++ x ∷ []) (filter p xs)
filter_push p xs x = filter-append p xs (x ∷ []) ∙ one (p x)
  where
    one : (b : Bool) → filter p xs ++ cond b (x ∷ []) [] ≡ cond b (filter p xs ++ x ∷ []) (filter p xs)
    one true = refl
    one false = append-nil (filter p xs)

-- the numbers that pass a test, one more
pub passing_more : (p : ℕ → Bool) (k : ℕ) (b : Bool) → b ≡ p k → filter p (range_with_len 0 (k + 1)) ≡ filter p (range_with_len 0 k) ++ cond b (k ∷ []) []
passing_more p k b is =
    let next : k + 1 ≡ suc k = omega arith in
    ap (λ n. filter p (range_with_len 0 n)) next ∙ ap (filter p) (range_push 0 k k (omega arith)) ∙ filter-append p (range_with_len 0 k) (k ∷ [])
    ∙ ap (λ b. filter p (range_with_len 0 k) ++ cond b (k ∷ []) []) (sym is)

rank_next : (p : ℕ → Bool) (len a n m : ℕ) → (a ≡ m → ⊥) → rank m (filter p (range_with_len (a + 1) len)) ≡ length (filter p (range_with_len (a + 1) n))
    → rank m (filter p (a ∷ range_with_len (a + 1) len)) ≡ length (filter p (a ∷ range_with_len (a + 1) n))
rank_next p len a n m apart further = one (p a)
  where
    front : (b : Bool) → (a == m) ≡ b → cond b 0 (suc (rank m (filter p (range_with_len (a + 1) len)))) ≡ suc (length (filter p (range_with_len (a + 1) n)))
    front true h = absurd (apart (eqb-true a m h))
    front false h = ap suc further

    one : (b : Bool) → rank m (cond b (a ∷ filter p (range_with_len (a + 1) len)) (filter p (range_with_len (a + 1) len))) ≡ length (cond b (a ∷ filter p (range_with_len (a + 1) n)) (filter p (range_with_len (a + 1) n)))
    one true = front (a == m) refl
    one false = further

rank_from : (p : ℕ → Bool) (len a n m : ℕ) → n < len → a + n ≡ m → p m ≡ true → rank m (filter p (range_with_len a len)) ≡ length (filter p (range_with_len a n))
rank_from p zero a n m lt at e = absurd (omega (arith, lt))
rank_from p (suc len) a zero m lt at e =
    let same : a ≡ m = omega (arith, at) in
    ap (λ b. rank m (cond b (a ∷ filter p (range_with_len (a + 1) len)) (filter p (range_with_len (a + 1) len)))) (ap p same ∙ e)
    ∙ ap (λ b. cond b 0 (suc (rank m (filter p (range_with_len (a + 1) len))))) (eq-eqb a m same)
rank_from p (suc len) a (suc n) m lt at e =
    rank_next p len a n m (λ same. absurd (omega (arith, at, same))) (rank_from p len (a + 1) n m (omega (arith, lt)) (omega (arith, at)) e)

-- what is known of the numbers below one, and of that
pub known_more : (old : List ℕ) (k v : ℕ) (f : ℕ → ℕ) → length old ≡ k → ((n : ℕ) → n < k → get_or old n 0 ≡ f n) → v ≡ f k → (n : ℕ) → n < k + 1 → get_or (old ++ v ∷ []) n 0 ≡ f n
known_more [] k v f is h at zero lt = let none : k ≡ 0 = sym is in at ∙ ap f none
known_more [] k v f is h at (suc n) lt = absurd (omega (arith, is, lt))
known_more (x ∷ old) zero v f is h at n lt = absurd (omega (arith, is))
known_more (x ∷ old) (suc k) v f is h at zero lt = h 0 (omega arith)
known_more (x ∷ old) (suc k) v f is h at (suc n) lt = known_more old k v (λ m. f (suc m)) (omega (arith, is)) (λ m below. h (suc m) (omega (arith, below))) at n (omega (arith, lt))

-- numbers below a bound, one more
pub small_more : (old : List ℕ) (v bound : ℕ) → ((n : ℕ) → get_or old n 0 < bound) → v < bound → 0 < bound → (n : ℕ) → get_or (old ++ v ∷ []) n 0 < bound
small_more [] v bound h lt there zero = lt
small_more [] v bound h lt there (suc n) = there
small_more (x ∷ old) v bound h lt there zero = h 0
small_more (x ∷ old) v bound h lt there (suc n) = small_more old v bound (λ m. h (suc m)) lt there n

-- how many stand in front of one that passes
pub rank_passing : (p : ℕ → Bool) (len n : ℕ) → n < len → p n ≡ true → rank n (filter p (range_with_len 0 len)) ≡ length (filter p (range_with_len 0 n))
rank_passing p len n lt e = rank_from p len 0 n n lt (omega arith) e

-- ---- wires

pub targets_more : (old new : BTreeMap ℕ (Vec Wire Global)) (ws : List Wire) (i : ℕ) (d : Wire) → i < length ws → ((n : ℕ) → wires_at old n ≡ filter (goes_to n) (take i ws))
    → ((n : ℕ) → wires_at new n ≡ cond ((get_or ws i d).target == n) (wires_at old n ++ get_or ws i d ∷ []) (wires_at old n)) → (n : ℕ) → wires_at new n ≡ filter (goes_to n) (take (i + 1) ws)
targets_more old new ws i d lt h u n =
    u n ∙ (λ k. cond ((get_or ws i d).target == n) (h n k ++ get_or ws i d ∷ []) (h n k)) ∙ sym (filter_push (goes_to n) (take i ws) (get_or ws i d)) ∙ ap (filter (goes_to n)) (sym (take_more ws i d lt))

abbrev any_of : List ℕ → ℕ → Bool
any_of ns x = list_any (λ m. m == x) ns

swap_any : (x : ℕ) (a b d : Bool) → cond (a || (b || d)) [] (x ∷ []) ≡ cond ((b || a) || d) [] (x ∷ [])
swap_any x true true d = refl
swap_any x true false d = refl
swap_any x false true d = refl
swap_any x false false d = refl

either_true : (a b : Bool) → b ≡ true → (a || b) ≡ true
either_true true b k = refl
either_true false b k = k

-- one that was seen is not another
seen_kept : (seen ns front : List ℕ) (n x : ℕ) → any_of seen n ≡ true → front ++ cond (any_of ns x || any_of seen x) [] (x ∷ []) ≡ front ++ cond (((n == x) || any_of ns x) || any_of seen x) [] (x ∷ [])
seen_kept seen ns front n x h = one (n == x) refl
  where
    one : (b : Bool) → (n == x) ≡ b → front ++ cond (any_of ns x || any_of seen x) [] (x ∷ []) ≡ front ++ cond ((b || any_of ns x) || any_of seen x) [] (x ∷ [])
    one false e = refl
    one true e = ap (λ b. front ++ cond b [] (x ∷ [])) (either_true (any_of ns x) (any_of seen x) (sym (ap (any_of seen) (eqb-true n x e)) ∙ h))

first_next : (seen ns : List ℕ) (n x : ℕ) → first_ones seen (ns ++ x ∷ []) ≡ first_ones seen ns ++ cond (any_of ns x || any_of seen x) [] (x ∷ [])
    → first_ones (n ∷ seen) (ns ++ x ∷ []) ≡ first_ones (n ∷ seen) ns ++ cond (any_of ns x || any_of (n ∷ seen) x) [] (x ∷ [])
    → first_ones seen (n ∷ ns ++ x ∷ []) ≡ first_ones seen (n ∷ ns) ++ cond (any_of (n ∷ ns) x || any_of seen x) [] (x ∷ [])
first_next seen ns n x same other = one (list_any (λ m. m == n) seen) refl
  where
    one : (b : Bool) → list_any (λ m. m == n) seen ≡ b → cond b (first_ones seen (ns ++ x ∷ [])) (n ∷ first_ones (n ∷ seen) (ns ++ x ∷ [])) ≡ cond b (first_ones seen ns) (n ∷ first_ones (n ∷ seen) ns) ++ cond (((n == x) || any_of ns x) || any_of seen x) [] (x ∷ [])
    one true h = same ∙ seen_kept seen ns (first_ones seen ns) n x h
    one false h = ap (λ l. n ∷ l) (other ∙ ap (λ l. first_ones (n ∷ seen) ns ++ l) (swap_any x (any_of ns x) (n == x) (any_of seen x)))

first_push : (seen ns : List ℕ) (x : ℕ) → first_ones seen (ns ++ x ∷ []) ≡ first_ones seen ns ++ cond (any_of ns x || any_of seen x) [] (x ∷ [])
first_push seen [] x = refl
first_push seen (n ∷ ns) x = first_next seen ns n x (first_push seen ns x) (first_push (n ∷ seen) ns x)

or_nothing : (b : Bool) → (b || false) ≡ b
or_nothing true = refl
or_nothing false = refl

-- one wire more
pub sources_more : (old new : Sources) (ws : List Wire) (x : Wire) → AreSources old ws → new.firsts.items ≡ old.firsts.items ++ cond (is_some (get nat_cmp old.wires x.source)) [] (x.source ∷ [])
    → ((n : ℕ) → wires_at new.wires n ≡ cond (x.source == n) (wires_at old.wires n ++ x ∷ []) (wires_at old.wires n))
    → ((n : ℕ) → is_some (get nat_cmp new.wires n) ≡ cond (x.source == n) true (is_some (get nat_cmp old.wires n))) → AreSources new (ws ++ x ∷ [])
sources_more old new ws x h firsts wires keys = record {
  firsts = firsts ∙ (λ i. h.firsts i ++ cond (h.keys x.source i) [] (x.source ∷ [])) ∙ ap (λ b. first_ones [] (map source_of ws) ++ cond b [] (x.source ∷ [])) (sym (or_nothing (any_of (map source_of ws) x.source)))
      ∙ sym (first_push [] (map source_of ws) x.source) ∙ ap (first_ones []) (sym (map-append source_of ws (x ∷ [])));
  wires = λ n. wires n ∙ (λ i. cond (x.source == n) (h.wires n i ++ x ∷ []) (h.wires n i)) ∙ sym (filter_push (comes_from n) ws x);
  keys = λ n. keys n ∙ ap (λ b. cond (x.source == n) true b) (h.keys n) ∙ sym (has_push (map source_of ws) x.source n) ∙ ap (λ ms. has ms n) (sym (map-append source_of ws (x ∷ [])));
}

pub flat_same : {X Y : Type 0} (f g : X → List Y) (xs : List X) → ((x : X) → f x ≡ g x) → flat_map f xs ≡ flat_map g xs
flat_same f g [] h = refl
flat_same f g (x ∷ xs) h = λ i. h x i ++ flat_same f g xs h i

pub flat_push : {X Y : Type 0} (f : X → List Y) (xs : List X) (x : X) → flat_map f (xs ++ x ∷ []) ≡ flat_map f xs ++ f x
flat_push f [] x = append-nil (f x)
flat_push f (y ∷ xs) x = ap (λ l. f y ++ l) (flat_push f xs x) ∙ sym (append_assoc (f y) (flat_map f xs) (f x))
