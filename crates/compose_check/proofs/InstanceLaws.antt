-- What instances are given, and that an order of them rules circles out.
use Rattle.std.proofs.Common.{◌≡◌, ℕ, zero, suc, ◌+◌, ◌<◌, ◌≤◌, Bool, true, false, cond, List, [], ◌∷◌, ◌++◌, length, refl, sym, ap, subst, ◌∙◌, arith, get_or, set, inl, inr, ltb}
use Rattle.std.specs.Prelude.{◌⊎◌, ◌||◌, ◌&&◌, ◌==◌, map, filter, find, Some, None, Vec}
use Rattle.std.specs.Global.{Global}
use Rattle.std.specs.List.{AllByRecursion, range_with_len}
use Rattle.std.proofs.lemmas.Bool.{and_parts, cases_lt, eq-eqb, eqb-true, ltb-true, lt-ltb, or_left, or_right}
use Rattle.std.proofs.lemmas.List.{append-nil, get_or-map, get_or-set_other, get_or-set_same, get_or_past, length-map, length-set, map-append, map-set, same_lists}
use Rattle.std.proofs.lemmas.List.Elements.{filter-append}
use Rattle.std.proofs.lemmas.List.FromFn.{get_or-map-range_with_len, length-map-range_with_len, length-range_with_len}
use Rattle.std.proofs.lemmas.List.Sums.{count_by-le-length, length-filter}
use Rattle.compose_agree.specs.Order.{HasPlaces, has, needs_at, needs_of}
use Rattle.compose_left.specs.Wiring.{HasNoCircle, is_into, wire_into}
use Rattle.compose_left.specs.declared.wiring.Wire.{Wire}
use Rattle.compose_check.specs.Checked.{sources}
use Rattle.compose_check.specs.Circles.{IsOnCircle, Leads}
use Rattle.compose_check.specs.Composition.{CompositionTree, HaveOwnImports, IsBetween, IsComposition, goes_to, shape_numbered, source_of, sources_of, wiring}
use Rattle.compose_check.proofs.CircleLaws.{either, no_circle_past}

-- ---- lists of sources

-- the lists of so many instances
abbrev pub all_sources : List Wire → ℕ → List (List ℕ)
all_sources ws count = map (sources_of ws) (range_with_len 0 count)

sources_push : (ws : List Wire) (w : Wire) (target : ℕ) → sources_of (ws ++ w ∷ []) target ≡ cond (w.target == target) (sources_of ws target ++ w.source ∷ []) (sources_of ws target)
sources_push ws w target = ap (map source_of) (filter-append (goes_to target) ws (w ∷ [])) ∙ map-append source_of (filter (goes_to target) ws) (filter (goes_to target) (w ∷ [])) ∙ by (w.target == target)
  where
    by : (b : Bool) → map source_of (filter (goes_to target) ws) ++ map source_of (cond b (w ∷ []) []) ≡ cond b (sources_of ws target ++ w.source ∷ []) (sources_of ws target)
    by true = refl
    by false = append-nil (map source_of (filter (goes_to target) ws))

sources_at : (ws : List Wire) (count k : ℕ) (d : List ℕ) → k < count → get_or (all_sources ws count) k d ≡ sources_of ws k
sources_at ws count k d lt = get_or-map-range_with_len (sources_of ws) 0 count k k d lt (omega arith)

-- one wire more is one source more of its target
pub one_source : (ws : List Wire) (w : Wire) (count : ℕ) → w.target < count → set (all_sources ws count) w.target (needs_at (all_sources ws count) w.target ++ w.source ∷ []) ≡ all_sources (ws ++ w ∷ []) count
one_source ws w count there = same_lists _ _ same_length at
  where
    old : List (List ℕ)
    old = all_sources ws count

    longer : List ℕ
    longer = needs_at old w.target ++ w.source ∷ []

    long : length old ≡ count
    long = length-map-range_with_len (sources_of ws) 0 count

    same_length : length (set old w.target longer) ≡ length (all_sources (ws ++ w ∷ []) count)
    same_length = length-set old w.target longer ∙ long ∙ sym (length-map-range_with_len (sources_of (ws ++ w ∷ [])) 0 count)

    at : (k : ℕ) (d : List ℕ) → k < length (set old w.target longer) → get_or (set old w.target longer) k d ≡ get_or (all_sources (ws ++ w ∷ []) count) k d
    at k d lt = by (w.target == k) refl ∙ sym (sources_at (ws ++ w ∷ []) count k d below)
      where
        below : k < count
        below = let size = length-set old w.target longer in omega (arith, lt, size, long)

        by : (b : Bool) → (w.target == k) ≡ b → get_or (set old w.target longer) k d ≡ sources_of (ws ++ w ∷ []) k
        by true e =
            let same : w.target ≡ k = eqb-true w.target k e in
            let inside : w.target < length old = omega (arith, there, long) in
            ap (λ j. get_or (set old w.target longer) j d) (sym same) ∙ get_or-set_same old w.target longer d inside
            ∙ ap (λ xs. xs ++ w.source ∷ []) (sources_at ws count w.target [] there ∙ ap (sources_of ws) same)
            ∙ sym (sources_push ws w k ∙ ap (λ b. cond b (sources_of ws k ++ w.source ∷ []) (sources_of ws k)) e)
        by false e =
            get_or-set_other old w.target k longer d (λ same. absurd (let bad : true ≡ false = sym (eq-eqb w.target k (sym same)) ∙ e in cc)) ∙ sources_at ws count k d below
            ∙ sym (sources_push ws w k ∙ ap (λ b. cond b (sources_of ws k ++ w.source ∷ []) (sources_of ws k)) e)

-- lists with nothing in them
pub one_empty : (count : ℕ) → all_sources [] count ++ [] ∷ [] ≡ all_sources [] (count + 1)
one_empty count = ap (λ xs. xs) (sym (more 0 count))
  where
    more : (a n : ℕ) → map (sources_of []) (range_with_len a (n + 1)) ≡ map (sources_of []) (range_with_len a n) ++ [] ∷ []
    more a zero = refl
    more a (suc n) = let next : suc n + 1 ≡ suc (n + 1) = omega arith in ap (λ k. map (sources_of []) (range_with_len a k)) next ∙ ap (λ xs. [] ∷ xs) (more (a + 1) n)

-- an element of a list of lists is written
pub written : (lists : List (Vec ℕ Global)) (at : ℕ) (v : Vec ℕ Global) (x : ℕ) (old : Vec ℕ Global) → at < length lists → old ≡ get_or lists at old → v.items ≡ old.items ++ x ∷ [] → needs_of (set lists at v) ≡ set (needs_of lists) at (needs_at (needs_of lists) at ++ x ∷ [])
written lists at v x old there is pushed =
    map-set (λ n. n.items) lists at v ∙ ap (set (needs_of lists) at) (pushed ∙ ap (λ xs. xs ++ x ∷ []) (ap (λ n. n.items) is ∙ sym (get_or-map (λ n. n.items) lists at old [] there)))

-- ---- what is given is there

source_below : (count : ℕ) (ws : List Wire) (target m : ℕ) → AllByRecursion (IsBetween count) ws → has (sources_of ws target) m ≡ true → m < count
source_below count [] target m a there = absurd cc
source_below count (w ∷ ws) target m a there = by (w.target == target) refl (source_below count ws target m a.1)
  where
    by : (b : Bool) → (w.target == target) ≡ b → (has (sources_of ws target) m ≡ true → m < count) → m < count
    by true e later =
        either (w.source == m) (has (sources_of ws target) m) (sym (ap (λ b. has (map source_of (cond b (w ∷ filter (goes_to target) ws) (filter (goes_to target) ws))) m) e) ∙ there)
        (λ same. subst (λ k. k < count) (eqb-true w.source m same) a.0.source) later
    by false e later = later (sym (ap (λ b. has (map source_of (cond b (w ∷ filter (goes_to target) ws) (filter (goes_to target) ws))) m) e) ∙ there)

pub count_of : (c : CompositionTree) → length (sources c) ≡ length c.instances
count_of c = length-map-range_with_len (sources_of c.wires) 0 (length c.instances)

pub given_below : (c : CompositionTree) → IsComposition c → (n m : ℕ) → has (needs_at (sources c) n) m ≡ true → m < length (sources c)
given_below c made n m there = by (cases_lt n (length c.instances))
  where
    by : (n < length c.instances) ⊎ (length c.instances ≤ n) → m < length (sources c)
    by (inl lt) = let size = count_of c in let below = source_below (length c.instances) c.wires n m made.joined (ap (λ ns. has ns m) (sym (sources_at c.wires (length c.instances) n [] lt)) ∙ there) in omega (arith, size, below)
    by (inr past) = let size = count_of c in absurd (let bad : false ≡ true = sym (ap (λ ns. has ns m) (get_or_past (sources c) n [] (omega (arith, past, size)))) ∙ there in cc)

pub on_circle_below : (c : CompositionTree) (n : ℕ) → IsOnCircle (sources c) n → n < length c.instances
on_circle_below c n circle = by (cases_lt n (length c.instances))
  where
    by : (n < length c.instances) ⊎ (length c.instances ≤ n) → n < length c.instances
    by (inl lt) = lt
    by (inr past) = let size = count_of c in absurd (no_circle_past (sources c) n (omega (arith, past, size)) circle)

-- ---- places, of which there are as many as instances

-- how many things have an earlier place
abbrev pub earlier : (ℕ → ℕ) → ℕ → ℕ → Bool
earlier place i j = ltb (place j) (place i)

abbrev pub rank : (ℕ → ℕ) → ℕ → ℕ → ℕ
rank place count i = length (filter (earlier place i) (range_with_len 0 count))

rank_within : (place : ℕ → ℕ) (count i : ℕ) → rank place count i ≤ count
rank_within place count i =
    let all = range_with_len 0 count in
    let is = length-filter (earlier place i) all in
    let most = count_by-le-length (earlier place i) all in
    let size = length-range_with_len 0 count in
    omega (arith, is, most, size)

more_pass : (p q : ℕ → Bool) (xs : List ℕ) → ((j : ℕ) → p j ≡ true → q j ≡ true) → length (filter p xs) ≤ length (filter q xs)
more_pass p q [] all = omega arith
more_pass p q (x ∷ xs) all = by (p x) (q x) refl refl (more_pass p q xs all)
  where
    by : (b d : Bool) → p x ≡ b → q x ≡ d → length (filter p xs) ≤ length (filter q xs) → length (cond b (x ∷ filter p xs) (filter p xs)) ≤ length (cond d (x ∷ filter q xs) (filter q xs))
    by true true e f h = omega (arith, h)
    by true false e f h = absurd (let bad : true ≡ false = sym (all x e) ∙ f in cc)
    by false true e f h = omega (arith, h)
    by false false e f h = h

one_more_passes : (p q : ℕ → Bool) (xs : List ℕ) (m : ℕ) → ((j : ℕ) → p j ≡ true → q j ≡ true) → p m ≡ false → q m ≡ true → has xs m ≡ true → length (filter p xs) < length (filter q xs)
one_more_passes p q [] m all absent present there = absurd (let bad : false ≡ true = there in cc)
one_more_passes p q (x ∷ xs) m all absent present there = by (x == m) (p x) (q x) refl refl refl (more_pass p q xs all) (one_more_passes p q xs m all absent present)
  where
    by : (s b d : Bool) → (x == m) ≡ s → p x ≡ b → q x ≡ d → length (filter p xs) ≤ length (filter q xs) → (has xs m ≡ true → length (filter p xs) < length (filter q xs))
        → length (cond b (x ∷ filter p xs) (filter p xs)) < length (cond d (x ∷ filter q xs) (filter q xs))
    by true true d s e f h later = absurd (let bad : true ≡ false = sym e ∙ ap p (eqb-true x m s) ∙ absent in cc)
    by true false true s e f h later = omega (arith, h)
    by true false false s e f h later = absurd (let bad : true ≡ false = sym present ∙ sym (ap q (eqb-true x m s)) ∙ f in cc)
    by false b d s e f h later = further b d e f (later (sym (ap (λ y. y || has xs m) s) ∙ there))
      where
        further : (b d : Bool) → p x ≡ b → q x ≡ d → length (filter p xs) < length (filter q xs) → length (cond b (x ∷ filter p xs) (filter p xs)) < length (cond d (x ∷ filter q xs) (filter q xs))
        further true true e f h = omega (arith, h)
        further true false e f h = absurd (let bad : true ≡ false = sym (all x e) ∙ f in cc)
        further false true e f h = omega (arith, h)
        further false false e f h = h

rank_less : (place : ℕ → ℕ) (count m n : ℕ) → place m < place n → has (range_with_len 0 count) m ≡ true → rank place count m < rank place count n
rank_less place count m n less there =
    one_more_passes (earlier place m) (earlier place n) (range_with_len 0 count) m
    (λ j before. let lower = ltb-true (place j) (place m) before in lt-ltb (place j) (place n) (omega (arith, lower, less))) (not_before (ltb (place m) (place m)) refl) (lt-ltb (place m) (place n) less) there
  where
    not_before : (b : Bool) → ltb (place m) (place m) ≡ b → ltb (place m) (place m) ≡ false
    not_before false e = e
    not_before true e = absurd (let bad = ltb-true (place m) (place m) e in omega (arith, bad))

-- a wire gives its source to its target
is_given : (ws : List Wire) (target import : ℕ) (w : Wire) → wire_into ws target import ≡ Some w → has (sources_of ws target) w.source ≡ true
is_given [] target import w e = absurd cc
is_given (v ∷ ws) target import w e = by (is_into target import v) refl (is_given ws target import w)
  where
    by : (b : Bool) → is_into target import v ≡ b → (wire_into ws target import ≡ Some w → has (sources_of ws target) w.source ≡ true) → has (sources_of (v ∷ ws) target) w.source ≡ true
    by true is later =
        let goes = (and_parts (v.target == target) (v.import == import) is).0 in
        let same : Some v ≡ Some w = sym (ap (λ b. cond b (Some v) (find (is_into target import) ws)) is) ∙ e in
        let first : v ≡ w = cc in
        ap (λ b. has (map source_of (cond b (v ∷ filter (goes_to target) ws) (filter (goes_to target) ws))) w.source) goes
        ∙ or_left (v.source == w.source) (has (sources_of ws target) w.source) (eq-eqb v.source w.source (ap (λ x. x.source) first))
    by false is later = wider (v.target == target) refl (later (sym (ap (λ b. cond b (Some v) (find (is_into target import) ws)) is) ∙ e))
      where
        wider : (b : Bool) → (v.target == target) ≡ b → has (sources_of ws target) w.source ≡ true → has (sources_of (v ∷ ws) target) w.source ≡ true
        wider true goes within = ap (λ b. has (map source_of (cond b (v ∷ filter (goes_to target) ws) (filter (goes_to target) ws))) w.source) goes ∙ or_right (v.source == w.source) (has (sources_of ws target) w.source) within
        wider false goes within = ap (λ b. has (map source_of (cond b (v ∷ filter (goes_to target) ws) (filter (goes_to target) ws))) w.source) goes ∙ within

target_below : (count : ℕ) (ws : List Wire) (target import : ℕ) (w : Wire) → AllByRecursion (IsBetween count) ws → wire_into ws target import ≡ Some w → target < count
target_below count [] target import w a e = absurd cc
target_below count (v ∷ ws) target import w a e = by (is_into target import v) refl (target_below count ws target import w a.1)
  where
    by : (b : Bool) → is_into target import v ≡ b → (wire_into ws target import ≡ Some w → target < count) → target < count
    by true is later = subst (λ k. k < count) (eqb-true v.target target (and_parts (v.target == target) (v.import == import) is).0) a.0.target
    by false is later = later (sym (ap (λ b. cond b (Some v) (find (is_into target import) ws)) is) ∙ e)

-- instances that have places have no circle
pub no_circle : (c : CompositionTree) → IsComposition c → (place : ℕ → ℕ) → HasPlaces (sources c) place → HasNoCircle (wiring c)
no_circle c made place places = record {
  place = rank place (length c.instances);
  behind = λ target import w is.
      let there = target_below (length c.instances) c.wires target import w made.joined is in
      let given = places target w.source (ap (λ ns. has ns w.source) (sources_at c.wires (length c.instances) target [] there) ∙ is_given c.wires target import w is) in
      rank_less place (length c.instances) w.source target given.0 (ap (λ k. has (range_with_len 0 k) w.source) (sym (count_of c)) ∙ given.1);
  within = λ i. subst (λ k. rank place (length c.instances) i ≤ k) (sym (length-map c.instances (shape_numbered c.components))) (rank_within place (length c.instances) i);
}

-- ---- a circle has no places

-- a source comes by a wire that is the first into its import
record ComesBy (ws : List Wire) (target source : ℕ) : Type 0 where
  import : ℕ
  wire : Wire
  is : wire.source ≡ source
  into : wire_into ws target import ≡ Some wire

-- a wire in front goes into another import
behind_another : (w : Wire) (ws : List Wire) (target source : ℕ) → wire_into ws w.target w.import ≡ None → ComesBy ws target source → ComesBy (w ∷ ws) target source
behind_another w ws target source own b = record {
  import = b.import;
  wire = b.wire;
  is = b.is;
  into = by (is_into target b.import w) refl;
}
  where
    by : (t : Bool) → is_into target b.import w ≡ t → cond (is_into target b.import w) (Some w) (wire_into ws target b.import) ≡ Some b.wire
    by false e = ap (λ t. cond t (Some w) (wire_into ws target b.import)) e ∙ b.into
    by true e =
        let parts = and_parts (w.target == target) (w.import == b.import) e in
        absurd (let bad : None ≡ Some b.wire = sym own ∙ (λ i. wire_into ws (eqb-true w.target target parts.0 i) (eqb-true w.import b.import parts.1 i)) ∙ b.into in cc)

comes_by : (ws : List Wire) (target source : ℕ) → HaveOwnImports ws → has (sources_of ws target) source ≡ true → ComesBy ws target source
comes_by [] target source own there = absurd cc
comes_by (w ∷ ws) target source own there = by (w.target == target) refl (comes_by ws target source own.1)
  where
    first : (w.target == target) ≡ true → (w.source == source) ≡ true → ComesBy (w ∷ ws) target source
    first goes same = record {
      import = w.import;
      wire = w;
      is = eqb-true w.source source same;
      into = ap (λ t. cond t (Some w) (wire_into ws target w.import)) (λ i. goes i && eq-eqb w.import w.import refl i);
    }

    by : (t : Bool) → (w.target == target) ≡ t → (has (sources_of ws target) source ≡ true → ComesBy ws target source) → ComesBy (w ∷ ws) target source
    by true goes later =
        either (w.source == source) (has (sources_of ws target) source) (sym (ap (λ b. has (map source_of (cond b (w ∷ filter (goes_to target) ws) (filter (goes_to target) ws))) source) goes) ∙ there)
        (first goes) (λ within. behind_another w ws target source own.0 (later within))
    by false goes later = behind_another w ws target source own.0 (later (sym (ap (λ b. has (map source_of (cond b (w ∷ filter (goes_to target) ws) (filter (goes_to target) ws))) source) goes) ∙ there))

earlier_source : (c : CompositionTree) → IsComposition c → (p : HasNoCircle (wiring c)) (n m : ℕ) → has (needs_at (sources c) n) m ≡ true → p.place m < p.place n
earlier_source c made p n m there = by (cases_lt n (length c.instances))
  where
    by : (n < length c.instances) ⊎ (length c.instances ≤ n) → p.place m < p.place n
    by (inl lt) =
        let b = comes_by c.wires n m made.apart (ap (λ ns. has ns m) (sym (sources_at c.wires (length c.instances) n [] lt)) ∙ there) in
        subst (λ k. p.place k < p.place n) b.is (p.behind n b.import b.wire b.into)
    by (inr past) = let size = count_of c in absurd (let bad : false ≡ true = sym (ap (λ ns. has ns m) (get_or_past (sources c) n [] (omega (arith, past, size)))) ∙ there in cc)

pub no_circle_has_none : (c : CompositionTree) → IsComposition c → HasNoCircle (wiring c) → (n : ℕ) → IsOnCircle (sources c) n → ⊥
no_circle_has_none c made p n circle = let bad = back circle.0 n circle.1 in omega (arith, bad)
  where
    back : (ms : List ℕ) (from : ℕ) → Leads (sources c) from ms n → p.place n < p.place from
    back [] from way = earlier_source c made p from n way
    back (m ∷ ms) from way = let step = earlier_source c made p from m way.0 in let rest = back ms m way.1 in omega (arith, step, rest)
