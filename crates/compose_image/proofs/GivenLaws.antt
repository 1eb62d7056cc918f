-- An instance is given something for each of its imports, and nothing else.
use Rattle.std.proofs.Common.{◌≡◌, ◌∙◌, ◌⊎◌, inl, inr, ℕ, zero, suc, ◌+◌, ◌<◌, ◌≤◌, Bool, true, false, cond, List, [], ◌∷◌, length, map, Some, None, slice_get, find, filter, refl, sym, ap, subst, arith}
use Rattle.std.specs.Prelude.{◌==◌, ◌||◌, ◌&&◌, is_none, Contains}
use Rattle.std.specs.List.{AllByRecursion, count_by, flat_map}
use Rattle.std.proofs.lemmas.Bool.{and_parts, cases_eq, eq-eqb, eqb-true, ne_eqb, or_cases, or_from, or_left, or_right}
use Rattle.std.proofs.lemmas.List.{length-append, length-map}
use Rattle.std.proofs.lemmas.List.Sums.{sum_by-append}
use Rattle.std.proofs.lemmas.Option.{get_or_from_slice_get}
use Rattle.comp_entity.specs.Entity.{EntityTree}
use Rattle.compose_agree.specs.Order.{has}
use Rattle.compose_left.specs.declared.wiring.Wire.{Wire}
use Rattle.compose_left.specs.Wiring.{is_into, wire_into}
use Rattle.compose_check.specs.Composition.{CompositionTree, HasEnds, HaveOwnImports, goes_to, source_of, wiring}
use Rattle.compose_image.specs.CompositionImage.{given_argument, instance_image, open_argument}
use Rattle.compose_image.specs.Instances.{by_source, comes_from, first_ones, open_from, open_imports, shape_of, wires_of}
use Rattle.compose_image.proofs.ListLaws.{AnyOf, all_after, any_left, any_place, any_right}
use Rattle.compose_image.proofs.OrderLaws.{OneOrTwo, count_one, one_or_two, times, times_before}

-- ---- what is among some

module _ {X : Type 0} where
  abbrev Among : List X → X → Type 0
  Among xs x = AnyOf (λ y. y ≡ x) xs

  contained : (xs : List X) (x : X) → Among xs x → Contains xs x
  contained xs x h =
      let at = any_place (λ y. y ≡ x) xs h in
      (at.place, at.within, get_or_from_slice_get xs at.place at.x x at.there ∙ at.has)

  found_among : (test : X → Bool) (xs : List X) (x : X) → find test xs ≡ Some x → Among xs x × (test x ≡ true)
  found_among test [] x e = absurd cc
  found_among test (y ∷ xs) x e = by (test y) refl (λ k. found_among test xs x k)
    where
      by : (b : Bool) → test y ≡ b → (find test xs ≡ Some x → Among xs x × (test x ≡ true))
          → Among (y ∷ xs) x × (test x ≡ true)
      by true t more =
          let f : Some y ≡ Some x = sym (ap (λ b. cond b (Some y) (find test xs)) t) ∙ e in
          let same : y ≡ x = cc in
          (inl same, subst (λ z. test z ≡ true) same t)
      by false t more =
          let later = more (sym (ap (λ b. cond b (Some y) (find test xs)) t) ∙ e) in (inr later.0, later.1)

  filter_among : (test : X → Bool) (xs : List X) (x : X) → Among xs x → test x ≡ true → Among (filter test xs) x
  filter_among test [] x h t = absurd h
  filter_among test (y ∷ xs) x h t = by (test y) refl h (λ k. filter_among test xs x k t)
    where
      by : (b : Bool) → test y ≡ b → Among (y ∷ xs) x → (Among xs x → Among (filter test xs) x)
          → Among (cond b (y ∷ filter test xs) (filter test xs)) x
      by true e (inl k) more = inl k
      by true e (inr k) more = inr (more k)
      by false e (inl k) more = let h : true ≡ false = sym t ∙ ap test (sym k) ∙ e in absurd cc
      by false e (inr k) more = more k

map_among : {X Y : Type 0} (f : X → Y) (xs : List X) (x : X) → Among xs x → Among (map f xs) (f x)
map_among f [] x h = absurd h
map_among f (y ∷ xs) x (inl h) = inl (ap f h)
map_among f (y ∷ xs) x (inr h) = inr (map_among f xs x h)

flat_among : {X Y : Type 0} (f : X → List Y) (xs : List X) (x : X) (y : Y) → Among xs x → Among (f x) y
    → Among (flat_map f xs) y
flat_among f [] x y h k = absurd h
flat_among f (z ∷ xs) x y (inl h) k = any_left (λ v. v ≡ y) (f z) (flat_map f xs) (subst (λ u. Among (f u) y) (sym h) k)
flat_among f (z ∷ xs) x y (inr h) k = any_right (λ v. v ≡ y) (f z) (flat_map f xs) (flat_among f xs x y h k)

-- ---- wires by their sources

first_among : (seen ns : List ℕ) (n : ℕ) → Among ns n → (has seen n ≡ true) ⊎ Among (first_ones seen ns) n
first_among seen [] n h = absurd h
first_among seen (m ∷ ns) n h =
    by (has seen m) refl h (λ k. first_among seen ns n k) (λ k. first_among (m ∷ seen) ns n k)
  where
    by : (b : Bool) → has seen m ≡ b → Among (m ∷ ns) n
        → (Among ns n → (has seen n ≡ true) ⊎ Among (first_ones seen ns) n)
        → (Among ns n → (has (m ∷ seen) n ≡ true) ⊎ Among (first_ones (m ∷ seen) ns) n)
        → (has seen n ≡ true) ⊎ Among (cond b (first_ones seen ns) (m ∷ first_ones (m ∷ seen) ns)) n
    by true e (inl k) more next = inl (ap (has seen) (sym k) ∙ e)
    by true e (inr k) more next = more k
    by false e (inl k) more next = inr (inl k)
    by false e (inr k) more next = behind (next k)
      where
        behind : (has (m ∷ seen) n ≡ true) ⊎ Among (first_ones (m ∷ seen) ns) n
            → (has seen n ≡ true) ⊎ Among (m ∷ first_ones (m ∷ seen) ns) n
        behind (inr j) = inr (inr j)
        behind (inl j) = which (or_cases (m == n) (has seen n) j)
          where
            which : ((m == n) ≡ true) ⊎ (has seen n ≡ true)
                → (has seen n ≡ true) ⊎ Among (m ∷ first_ones (m ∷ seen) ns) n
            which (inl same) = inr (inl (eqb-true m n same))
            which (inr was) = inl was

source_among : (ws : List Wire) (w : Wire) → Among ws w → Among (by_source ws) w
source_among ws w h = by (first_among [] (map source_of ws) w.source (map_among source_of ws w h))
  where
    by : (false ≡ true) ⊎ Among (first_ones [] (map source_of ws)) w.source → Among (by_source ws) w
    by (inl none) = absurd cc
    by (inr k) =
        flat_among (λ source. filter (comes_from source) ws) (first_ones [] (map source_of ws)) w.source w k
        (filter_among (comes_from w.source) ws w h (eq-eqb w.source w.source refl))

-- ---- what an instance is given

pub wired_given : (c : CompositionTree) (order : List ℕ) (i import : ℕ) (w : Wire) → wire_into c.wires i import ≡ Some w
    → Contains (instance_image c order i).1 (given_argument c order w)
wired_given c order i import w e =
    let f = found_among (is_into i import) c.wires w e in
    contained (instance_image c order i).1 (given_argument c order w)
    (any_left (λ a. a ≡ given_argument c order w) (map (given_argument c order) (wires_of c i))
    (map open_argument (open_imports c i))
    (map_among (given_argument c order) (wires_of c i) w
    (source_among (filter (goes_to i) c.wires) w
    (filter_among (goes_to i) c.wires w f.0 (and_parts (w.target == i) (w.import == import) f.1).0))))

open_among : (c : CompositionTree) (i k n : ℕ) (es : List (List ℕ × EntityTree)) (e : List ℕ × EntityTree)
    → slice_get es n ≡ Some e → wire_into c.wires i (k + n) ≡ None → Among (open_from c i k es) e
open_among c i k n [] e h none = absurd cc
open_among c i k zero (x ∷ es) e h none =
    let same : x ≡ e = cc in
    let here : wire_into c.wires i k ≡ None = subst (λ m. wire_into c.wires i m ≡ None) (plus_none k) none in
    any_left (λ y. y ≡ e) (cond (is_none (wire_into c.wires i k)) (x ∷ []) []) (open_from c i (suc k) es)
    (subst (λ o. Among (cond (is_none o) (x ∷ []) []) e) (sym here) (inl same))
  where
    plus_none : (m : ℕ) → m + 0 ≡ m
    plus_none m = omega arith
open_among c i k (suc n) (x ∷ es) e h none =
    any_right (λ y. y ≡ e) (cond (is_none (wire_into c.wires i k)) (x ∷ []) []) (open_from c i (suc k) es)
    (open_among c i (suc k) n es e h (subst (λ m. wire_into c.wires i m ≡ None) plus none))
  where
    plus : k + suc n ≡ suc k + n
    plus = omega arith

pub open_given : (c : CompositionTree) (order : List ℕ) (i import : ℕ) (e : List ℕ × EntityTree)
    → slice_get (shape_of c i).imports import ≡ Some e → wire_into c.wires i import ≡ None
    → Contains (instance_image c order i).1 (open_argument e)
open_given c order i import e h none =
    contained (instance_image c order i).1 (open_argument e)
    (any_right (λ a. a ≡ open_argument e) (map (given_argument c order) (wires_of c i))
    (map open_argument (open_imports c i))
    (map_among open_argument (open_imports c i) e
    (open_among c i 0 import (shape_of c i).imports e h (subst (λ m. wire_into c.wires i m ≡ None) plus none))))
  where
    plus : import ≡ 0 + import
    plus = omega arith

-- ---- nothing else

each_among : {X : Type 0} (xs ys : List X) → ((y : X) → Among ys y → Among xs y) → AllByRecursion (Among xs) ys
each_among xs [] f = tt
each_among xs (y ∷ ys) f = (f y (inl refl), each_among xs ys (λ z h. f z (inr h)))

has_among : (ns : List ℕ) (n : ℕ) → Among ns n → has ns n ≡ true
has_among [] n h = absurd h
has_among (m ∷ ns) n (inl h) = or_left (m == n) (has ns n) (eq-eqb m n h)
has_among (m ∷ ns) n (inr h) = or_right (m == n) (has ns n) (has_among ns n h)

-- what was seen is not among the first ones, and any other is once
first_absent : (seen ns : List ℕ) (n : ℕ) → has seen n ≡ true → times n (first_ones seen ns) ≡ 0
first_absent seen [] n h = refl
first_absent seen (m ∷ ns) n h =
    by (has seen m) refl (first_absent seen ns n h) (first_absent (m ∷ seen) ns n (or_right (m == n) (has seen n) h))
    (one_or_two n m)
  where
    by : (b : Bool) → has seen m ≡ b → times n (first_ones seen ns) ≡ 0 → times n (first_ones (m ∷ seen) ns) ≡ 0
        → OneOrTwo n m
        → times n (cond b (first_ones seen ns) (m ∷ first_ones (m ∷ seen) ns)) ≡ 0
    by true e more next o = more
    by false e more next (inl o) = let k : true ≡ false = sym h ∙ ap (has seen) (sym o.0) ∙ e in absurd cc
    by false e more next (inr o) = omega (arith, next, o.1, times_before n m (first_ones (m ∷ seen) ns))

first_once : (seen ns : List ℕ) (n : ℕ) → has seen n ≡ false → has ns n ≡ true → times n (first_ones seen ns) ≡ 1
first_once seen [] n h k = absurd cc
first_once seen (m ∷ ns) n h k =
    by (has seen m) refl (one_or_two n m) (λ later. first_once seen ns n h later)
    (λ other later. first_once (m ∷ seen) ns n (or_from (m == n) (has seen n) other h) later)
  where
    later : (m ≡ n → ⊥) → has ns n ≡ true
    later two = sym (ap (λ b. b || has ns n) (ne_eqb m n two)) ∙ k

    by : (b : Bool) → has seen m ≡ b → OneOrTwo n m → (has ns n ≡ true → times n (first_ones seen ns) ≡ 1)
        → ((m == n) ≡ false → has ns n ≡ true → times n (first_ones (m ∷ seen) ns) ≡ 1)
        → times n (cond b (first_ones seen ns) (m ∷ first_ones (m ∷ seen) ns)) ≡ 1
    by true e (inl o) more next = let j : true ≡ false = sym e ∙ ap (has seen) o.0 ∙ h in absurd cc
    by true e (inr o) more next = more (later o.0)
    by false e (inl o) more next =
        omega (
          arith,
          o.1,
          times_before n m (first_ones (m ∷ seen) ns),
          first_absent (m ∷ seen) ns n
              (or_left (m == n) (has seen n) (eq-eqb m n o.0)),
        )
    by false e (inr o) more next =
        omega (arith, o.1, times_before n m (first_ones (m ∷ seen) ns), next (ne_eqb m n o.0) (later o.0))

swapped : (a b : ℕ) → (a == b) ≡ (b == a)
swapped a b = by (cases_eq a b)
  where
    by : (a ≡ b) ⊎ (a ≡ b → ⊥) → (a == b) ≡ (b == a)
    by (inl e) = eq-eqb a b e ∙ sym (eq-eqb b a (sym e))
    by (inr e) = ne_eqb a b e ∙ sym (ne_eqb b a (λ h. e (sym h)))

abbrev of_sources : List ℕ → List Wire → List Wire
of_sources ns ws = flat_map (λ source. filter (comes_from source) ws) ns

no_wires : (ns : List ℕ) → length (of_sources ns []) ≡ 0
no_wires [] = refl
no_wires (n ∷ ns) = no_wires ns

one_wire_more : (ns : List ℕ) (w : Wire) (ws : List Wire)
    → length (of_sources ns (w ∷ ws)) ≡ times w.source ns + length (of_sources ns ws)
one_wire_more [] w ws = omega arith
one_wire_more (n ∷ ns) w ws =
    omega (
      arith,
      length-append (filter (comes_from n) (w ∷ ws)) (of_sources ns (w ∷ ws)),
      length-append
          (filter (comes_from n) ws) (of_sources ns ws),
      by (w.source == n),
      ap count_one (swapped w.source n),
      times_before w.source n ns,
      one_wire_more ns w ws,
    )
  where
    by : (b : Bool)
        → length (cond b (w ∷ filter (comes_from n) ws) (filter (comes_from n) ws)) ≡ count_one b + length
        (filter (comes_from n) ws)
    by true = omega arith
    by false = omega arith

as_many_of : (ns : List ℕ) (ws : List Wire) → AllByRecursion (λ (w : Wire). times w.source ns ≡ 1) ws
    → length (of_sources ns ws) ≡ length ws
as_many_of ns [] a = no_wires ns
as_many_of ns (w ∷ ws) a = omega (arith, one_wire_more ns w ws, a.0, as_many_of ns ws a.1)

length-by_source : (ws : List Wire) → length (by_source ws) ≡ length ws
length-by_source ws =
    as_many_of (first_ones [] (map source_of ws)) ws
    (all_after (Among ws) (λ (w : Wire). times w.source (first_ones [] (map source_of ws)) ≡ 1) ws
    (λ w h. first_once [] (map source_of ws) w.source refl
    (has_among (map source_of ws) w.source (map_among source_of ws w h)))
    (each_among ws ws (λ y h. h)))

-- ---- wires into the imports from one on

abbrev between : List Wire → ℕ → ℕ → ℕ → ℕ
between ws i k zero = 0
between ws i k (suc m) = count_by (is_into i k) ws + between ws i (suc k) m

count_before : (test : Wire → Bool) (w : Wire) (ws : List Wire)
    → count_by test (w ∷ ws) ≡ count_one (test w) + count_by test ws
count_before test w ws =
    sum_by-append (λ v. cond (test v) 1 0) (w ∷ []) ws ∙ ap (λ k. k + count_by test ws) (by (test w))
  where
    by : (b : Bool) → 0 + cond b 1 0 ≡ count_one b
    by true = refl
    by false = refl

-- an import has one wire, or none
one_wire : (ws : List Wire) (i k : ℕ) → HaveOwnImports ws
    → count_by (is_into i k) ws + count_one (is_none (wire_into ws i k)) ≡ 1
one_wire [] i k h = refl
one_wire (w ∷ ws) i k h = by (is_into i k w) refl (one_wire ws i k h.1)
  where
    by : (b : Bool) → is_into i k w ≡ b → count_by (is_into i k) ws + count_one (is_none (wire_into ws i k)) ≡ 1
        → count_by (is_into i k) (w ∷ ws) + count_one (is_none (cond (is_into i k w) (Some w) (wire_into ws i k))) ≡ 1
    by true e later =
        let parts = and_parts (w.target == i) (w.import == k) e in
        let none : wire_into ws i k ≡ None = (λ j. wire_into ws (sym (eqb-true w.target i parts.0) j)
        (sym (eqb-true w.import k parts.1) j)) ∙ h.0 in
        omega (
          arith,
          count_before (is_into i k) w ws,
          ap count_one e,
          ap
              (λ b. count_one (is_none (cond b (Some w) (wire_into ws i k)))) e,
          later,
          ap (λ o. count_one (is_none o)) none,
        )
    by false e later =
        omega (
          arith,
          count_before (is_into i k) w ws,
          ap count_one e,
          ap
              (λ b. count_one (is_none (cond b (Some w) (wire_into ws i k)))) e,
          later,
        )

opens_between : (c : CompositionTree) (i k : ℕ) (es : List (List ℕ × EntityTree)) → HaveOwnImports c.wires
    → length (open_from c i k es) + between c.wires i k (length es) ≡ length es
opens_between c i k [] h = omega arith
opens_between c i k (e ∷ es) h =
    omega (
      arith,
      length-append (cond (is_none (wire_into c.wires i k)) (e ∷ []) []) (open_from c i (suc k) es),
      by
          (is_none (wire_into c.wires i k)),
      one_wire c.wires i k h,
      opens_between c i (suc k) es h,
    )
  where
    by : (b : Bool) → length (cond b (e ∷ []) []) ≡ count_one b
    by true = refl
    by false = refl

-- a wire goes into one import
abbrev one_between : Wire → ℕ → ℕ → ℕ → ℕ
one_between w i k zero = 0
one_between w i k (suc m) = count_one (is_into i k w) + one_between w i (suc k) m

between_more : (w : Wire) (ws : List Wire) (i k m : ℕ) → between (w ∷ ws) i k m ≡ one_between w i k m + between ws i k m
between_more w ws i k zero = refl
between_more w ws i k (suc m) = omega (arith, count_before (is_into i k) w ws, between_more w ws i (suc k) m)

between_none : (i k m : ℕ) → between [] i k m ≡ 0
between_none i k zero = refl
between_none i k (suc m) = omega (arith, between_none i (suc k) m)

elsewhere : (w : Wire) (i k m : ℕ) → (w.target == i) ≡ false → one_between w i k m ≡ 0
elsewhere w i k zero e = refl
elsewhere w i k (suc m) e = omega (arith, ap (λ b. count_one (b && (w.import == k))) e, elsewhere w i (suc k) m e)

in_front : (w : Wire) (i k m : ℕ) → w.import < k → one_between w i k m ≡ 0
in_front w i k zero lt = refl
in_front w i k (suc m) lt = omega (arith, by (w.target == i), in_front w i (suc k) m (omega (arith, lt)))
  where
    two : w.import ≡ k → ⊥
    two e = omega (arith, e, lt)

    by : (b : Bool) → count_one (b && (w.import == k)) ≡ 0
    by true = ap count_one (ne_eqb w.import k two)
    by false = refl

within_once : (w : Wire) (i k m : ℕ) → (w.target == i) ≡ true → k ≤ w.import → w.import < k + m
    → one_between w i k m ≡ 1
within_once w i k zero e low high = absurd (omega (arith, low, high))
within_once w i k (suc m) e low high =
    by (cases_eq w.import k) (λ above. within_once w i (suc k) m e above (omega (arith, high)))
  where
    here : count_one (is_into i k w) ≡ count_one (w.import == k)
    here = ap (λ b. count_one (b && (w.import == k))) e

    by : (w.import ≡ k) ⊎ (w.import ≡ k → ⊥) → (suc k ≤ w.import → one_between w i (suc k) m ≡ 1)
        → one_between w i k (suc m) ≡ 1
    by (inl same) more =
        omega (arith, here, ap count_one (eq-eqb w.import k same), in_front w i (suc k) m (omega (arith, same)))
    by (inr two) more = omega (arith, here, ap count_one (ne_eqb w.import k two), more (next two))
      where
        next : (w.import ≡ k → ⊥) → suc k ≤ w.import
        next apart = omega (arith, low, apart)

all_between : (ws : List Wire) (i m : ℕ) → AllByRecursion (λ (w : Wire). (w.target == i) ≡ true → w.import < m) ws
    → between ws i 0 m ≡ length (filter (goes_to i) ws)
all_between [] i m a = between_none i 0 m
all_between (w ∷ ws) i m a = by (w.target == i) refl (all_between ws i m a.1)
  where
    by : (b : Bool) → (w.target == i) ≡ b → between ws i 0 m ≡ length (filter (goes_to i) ws)
        → between (w ∷ ws) i 0 m ≡ length (cond b (w ∷ filter (goes_to i) ws) (filter (goes_to i) ws))
    by true e later =
        omega (arith, between_more w ws i 0 m, within_once w i 0 m e (omega arith) (omega (arith, a.0 e)), later)
    by false e later = omega (arith, between_more w ws i 0 m, elsewhere w i 0 m e, later)

pub as_many_given : (c : CompositionTree) (order : List ℕ) (i : ℕ) → HaveOwnImports c.wires
    → AllByRecursion (HasEnds (wiring c)) c.wires
    → length (instance_image c order i).1 ≡ length (shape_of c i).imports
as_many_given c order i own there =
    omega (
      arith,
      length-append (map (given_argument c order) (wires_of c i)) (map open_argument (open_imports c i)),
      length-map (wires_of c i) (given_argument c order),
      length-map (open_imports c i) open_argument,
      length-by_source (filter (goes_to i) c.wires),
      opens_between c i 0 (shape_of c i).imports own,
      all_between c.wires i (length (shape_of c i).imports)
          (all_after (HasEnds (wiring c))
          (λ (w : Wire). (w.target == i) ≡ true → w.import < length (shape_of c i).imports) c.wires
          (λ w h e. subst (λ n. w.import < length (shape_of c n).imports) (eqb-true w.target i e) h.import) there),
    )
