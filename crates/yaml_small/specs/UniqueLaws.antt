-- Events have one tree, a text has one document, and a refused text has none.
use Rattle.std.proofs.Common.{◌≡◌, ℕ, zero, suc, ◌+◌, ◌<◌, List, [], ◌∷◌, length, Option, Some, None, Result, Ok, Err, refl, sym, ap, ◌∙◌, subst, arith}
use Rattle.yaml_small.specs.declared.event.Event.{Event}
use Rattle.yaml_small.specs.declared.event.Event.TheVariants.{StreamEnd, DocumentEnd, SequenceEnd, MappingEnd}
use Rattle.yaml_small.specs.declared.event.Style.{Style}
use Rattle.yaml_small.specs.Trees.{Scalar, Tree, Leaf, Seq, Map, Trees, none, more, Pairs, no_pairs, pair, scalar_event, emitted, each_emitted, pairs_emitted, stream_emitted, ends_again}
use Rattle.yaml_small.specs.Scalars.{Fault}
use Rattle.yaml_small.specs.Grammar.{Carried}
use Rattle.yaml_small.specs.Stream.{State, start, next, Runs, Refuses}
use Rattle.yaml_small.specs.RunLaws.{pair_is}
use Rattle.yaml_small.specs.EmittedTextLaws.{carried_emitted}

-- Two runs of one length from one state tell the same.
runs_same : (s : State) (es fs : List Event) (y z : State) → length es ≡ length fs → Runs s es y → Runs s fs z → es ≡ fs
runs_same s [] [] y z same p q = refl
runs_same s [] (f ∷ fs) y z same p q = absurd (omega (arith, same))
runs_same s (e ∷ es) [] y z same p q = absurd (omega (arith, same))
runs_same s (e ∷ es) (f ∷ fs) y z same (m, p, rest) (n, q, further) =
    let one = pair_is (e, m) (f, n) (sym p ∙ q) in
    let there = subst (λ (x : State). Runs x fs z) (sym (ap (λ (x : Event × State). x.1) one)) further in
    ap (λ (x : Event). x ∷ es) (ap (λ (x : Event × State). x.0) one) ∙ ap (λ (x : List Event). f ∷ x) (runs_same m es fs y z (omega (arith, same)) rest there)

-- A run that comes to a fault is no part of a longer one.
pub run_stops : (s : State) (es fs : List Event) (y z : State) (fault : Fault) → Runs s es y → next y ≡ Err fault → Runs s fs z → length es < length fs → ⊥
run_stops s es [] y z fault p stop q less = omega (arith, less)
run_stops s [] (f ∷ fs) y z fault p stop (n, q, further) less = let e = sym q ∙ ap next p ∙ stop in cc
run_stops s (e ∷ es) (f ∷ fs) y z fault (m, p, rest) stop (n, q, further) less =
    let one = pair_is (e, m) (f, n) (sym p ∙ q) in
    run_stops m es fs y z fault rest stop (subst (λ (x : State). Runs x fs z) (sym (ap (λ (x : Event × State). x.1) one)) further) (omega (arith, less))

scalar_one : (s r : Scalar) (es fs : List Event) → scalar_event s ∷ es ≡ scalar_event r ∷ fs → (s ≡ r) × (es ≡ fs)
scalar_one s r es fs e =
    let text : s.text ≡ r.text = cc in
    let style : s.style ≡ r.style = cc in
    let one : s ≡ r = ap (λ (x : List ℕ). let y : Scalar = record { text = x; style = s.style } in y) text ∙ ap (λ (x : Style). let y : Scalar = record { text = r.text; style = x } in y) style in
    (one, cc)

mutual
  pub tree_one : (t u : Tree) (es fs : List Event) → emitted t es ≡ emitted u fs → (t ≡ u) × (es ≡ fs)
  tree_one (Leaf s) (Leaf r) es fs e = let p = scalar_one s r es fs e in (ap (λ (x : Scalar). Leaf x) p.0, p.1)
  tree_one (Leaf s) (Seq us) es fs e = absurd cc
  tree_one (Leaf s) (Map qs) es fs e = absurd cc
  tree_one (Seq ts) (Leaf r) es fs e = absurd cc
  tree_one (Seq ts) (Seq us) es fs e = let p = trees_one ts us es fs cc in (ap (λ (x : Trees). Seq x) p.0, p.1)
  tree_one (Seq ts) (Map qs) es fs e = absurd cc
  tree_one (Map ps) (Leaf r) es fs e = absurd cc
  tree_one (Map ps) (Seq us) es fs e = absurd cc
  tree_one (Map ps) (Map qs) es fs e = let p = pairs_one ps qs es fs cc in (ap (λ (x : Pairs). Map x) p.0, p.1)

  trees_one : (ts us : Trees) (es fs : List Event) → each_emitted ts (SequenceEnd ∷ es) ≡ each_emitted us (SequenceEnd ∷ fs) → (ts ≡ us) × (es ≡ fs)
  trees_one none none es fs e = (refl, cc)
  trees_one none (more (Leaf s) us) es fs e = absurd cc
  trees_one none (more (Seq ws) us) es fs e = absurd cc
  trees_one none (more (Map qs) us) es fs e = absurd cc
  trees_one (more (Leaf s) ts) none es fs e = absurd cc
  trees_one (more (Seq ws) ts) none es fs e = absurd cc
  trees_one (more (Map qs) ts) none es fs e = absurd cc
  trees_one (more t ts) (more u us) es fs e =
      let p = tree_one t u (each_emitted ts (SequenceEnd ∷ es)) (each_emitted us (SequenceEnd ∷ fs)) e in
      let q = trees_one ts us es fs p.1 in
      (ap (λ (x : Tree). more x ts) p.0 ∙ ap (λ (x : Trees). more u x) q.0, q.1)

  pairs_one : (ps qs : Pairs) (es fs : List Event) → pairs_emitted ps (MappingEnd ∷ es) ≡ pairs_emitted qs (MappingEnd ∷ fs) → (ps ≡ qs) × (es ≡ fs)
  pairs_one no_pairs no_pairs es fs e = (refl, cc)
  pairs_one no_pairs (pair k u qs) es fs e = absurd cc
  pairs_one (pair k t ps) no_pairs es fs e = absurd cc
  pairs_one (pair k t ps) (pair l u qs) es fs e =
      let s = scalar_one k l (emitted t (pairs_emitted ps (MappingEnd ∷ es))) (emitted u (pairs_emitted qs (MappingEnd ∷ fs))) e in
      let p = tree_one t u (pairs_emitted ps (MappingEnd ∷ es)) (pairs_emitted qs (MappingEnd ∷ fs)) s.1 in
      let q = pairs_one ps qs es fs p.1 in
      (ap (λ (x : Scalar). pair x t ps) s.0 ∙ ap (λ (x : Tree). pair l x ps) p.0 ∙ ap (λ (x : Pairs). pair l u x) q.0, q.1)

pub stream_one : (o p : Option Tree) (es fs : List Event) → stream_emitted o es ≡ stream_emitted p fs → (o ≡ p) × (es ≡ fs)
stream_one None None es fs e = (refl, cc)
stream_one None (Some u) es fs e = absurd cc
stream_one (Some t) None es fs e = absurd cc
stream_one (Some t) (Some u) es fs e =
    let p = tree_one t u (DocumentEnd ∷ StreamEnd ∷ es) (DocumentEnd ∷ StreamEnd ∷ fs) cc in
    (ap (λ (x : Tree). Some x) p.0, cc (p.1))

mutual
  emitted_length : (t : Tree) (es : List Event) → length (emitted t es) ≡ length (emitted t []) + length es
  emitted_length (Leaf s) es = omega arith
  emitted_length (Seq ts) es = omega (arith, each_length ts (SequenceEnd ∷ es), each_length ts (SequenceEnd ∷ []))
  emitted_length (Map ps) es = omega (arith, pairs_length ps (MappingEnd ∷ es), pairs_length ps (MappingEnd ∷ []))

  each_length : (ts : Trees) (es : List Event) → length (each_emitted ts es) ≡ length (each_emitted ts []) + length es
  each_length none es = omega arith
  each_length (more t ts) es = omega (arith, emitted_length t (each_emitted ts es), emitted_length t (each_emitted ts []), each_length ts es)

  pairs_length : (ps : Pairs) (es : List Event) → length (pairs_emitted ps es) ≡ length (pairs_emitted ps []) + length es
  pairs_length no_pairs es = omega arith
  pairs_length (pair k t ps) es = omega (arith, emitted_length t (pairs_emitted ps es), emitted_length t (pairs_emitted ps []), pairs_length ps es)

again_length : (n : ℕ) → length (ends_again n) ≡ n
again_length zero = refl
again_length (suc n) = ap (λ (m : ℕ). suc m) (again_length n)

stream_length : (o : Option Tree) (n : ℕ) → length (stream_emitted o (ends_again n)) ≡ length (stream_emitted o []) + n
stream_length None n = omega (arith, again_length n)
stream_length (Some t) n = omega (arith, again_length n, emitted_length t (DocumentEnd ∷ StreamEnd ∷ ends_again n), emitted_length t (DocumentEnd ∷ StreamEnd ∷ []))

pub one_document : (text : List ℕ) (o p : Option Tree) → Carried text o → Carried text p → o ≡ p
one_document text o p c d =
    let n = length (stream_emitted p []) in
    let m = length (stream_emitted o []) in
    let s = carried_emitted text o n c in
    let t = carried_emitted text p m d in
    let same : length (stream_emitted o (ends_again n)) ≡ length (stream_emitted p (ends_again m)) = omega (arith, stream_length o n, stream_length p m) in
    (stream_one o p (ends_again n) (ends_again m) (runs_same (start text) (stream_emitted o (ends_again n)) (stream_emitted p (ends_again m)) s.0 t.0 same s.1 t.1)).0

pub refused_not_carried : (text : List ℕ) (fault : Fault) (o : Option Tree) → Refuses text fault → Carried text o → ⊥
refused_not_carried text fault o (es, (s, (runs, stop))) c =
    let t = carried_emitted text o (length es) c in
    let less : length es < length (stream_emitted o (ends_again (length es))) = longer o in
    run_stops (start text) es (stream_emitted o (ends_again (length es))) s t.0 fault runs stop t.1 less
  where
    longer : (o : Option Tree) → length es < length (stream_emitted o (ends_again (length es)))
    longer None = omega (arith, stream_length None (length es))
    longer (Some t) = omega (arith, stream_length (Some t) (length es))

mutual
  -- behind a tree's events a run goes on
  run_behind : (t : Tree) (s : State) (es : List Event) (z : State) → Runs s (emitted t es) z → (m : State) × Runs m es z
  run_behind (Leaf x) s es z (m, p, rest) = (m, rest)
  run_behind (Seq ts) s es z (m, p, rest) = let h = each_behind ts m (SequenceEnd ∷ es) z rest in (h.1.0, h.1.2)
  run_behind (Map ps) s es z (m, p, rest) = let h = pairs_behind ps m (MappingEnd ∷ es) z rest in (h.1.0, h.1.2)

  each_behind : (ts : Trees) (s : State) (es : List Event) (z : State) → Runs s (each_emitted ts es) z → (m : State) × Runs m es z
  each_behind none s es z runs = (s, runs)
  each_behind (more t ts) s es z runs = let h = run_behind t s (each_emitted ts es) z runs in each_behind ts h.0 es z h.1

  pairs_behind : (ps : Pairs) (s : State) (es : List Event) (z : State) → Runs s (pairs_emitted ps es) z → (m : State) × Runs m es z
  pairs_behind no_pairs s es z runs = (s, runs)
  pairs_behind (pair k t ps) s es z (m, p, rest) = let h = run_behind t m (pairs_emitted ps es) z rest in pairs_behind ps h.0 es z h.1

-- the last step of a stream's run
pub last_step : (o : Option Tree) (s z : State) → Runs s (stream_emitted o []) z → (m : State) × (next m ≡ Ok (StreamEnd, z))
last_step None s z (m, p, (n, q, there)) = (m, q ∙ ap (λ (x : State). moved_to x) there)
  where
    moved_to : State → Result (Event × State) Fault
    moved_to x = Ok (StreamEnd, x)
last_step (Some t) s z (m, p, (n, q, rest)) =
    let h = run_behind t n (DocumentEnd ∷ StreamEnd ∷ []) z rest in
    (h.1.0, h.1.2.1 ∙ ap (λ (x : State). moved_to x) h.1.2.2)
  where
    moved_to : State → Result (Event × State) Fault
    moved_to x = Ok (StreamEnd, x)
