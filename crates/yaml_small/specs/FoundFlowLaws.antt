-- A run to the stream's end that begins in a flow begins with a flow node.
use Rattle.std.proofs.Common.{◌≡◌, ℕ, zero, suc, ◌+◌, ◌<◌, ◌≤◌, List, [], ◌∷◌, ◌++◌, length, Bool, true, false, Option, Some, None, Result, Ok, refl, sym, ap, ◌∙◌, subst, inl, inr, arith}
use Rattle.yaml_small.specs.declared.event.Event.{Event}
use Rattle.yaml_small.specs.declared.event.Event.TheVariants.{SequenceStart, SequenceEnd, MappingStart, MappingEnd}
use Rattle.yaml_small.specs.declared.state.Mode.TheVariants.{Open, AfterKey, Done, Ended}
use Rattle.yaml_small.specs.declared.state.Frame.{Frame}
use Rattle.yaml_small.specs.declared.state.Frame.TheVariants.{InSeq, InPairs}
use Rattle.yaml_small.specs.declared.state.Change.TheVariants.{Keep, Pop}
use Rattle.yaml_small.specs.Trees.{Tree, Leaf, Seq, Map, Trees, none, more, Pairs, no_pairs, pair, missing, scalar_event, depth, depths, pair_depths, emitted, each_emitted, pairs_emitted}
use Rattle.yaml_small.specs.Places.{At, past, flow_next, begins}
use Rattle.yaml_small.specs.Scalars.{Fault, scalar_token_at, continues_below}
use Rattle.yaml_small.specs.Grammar.{Flow, FlowItems, FlowPairs, FlowValue, is_quoted, is_flow_colon, closes_value}
use Rattle.yaml_small.specs.ScalarLaws.{token_form}
use Rattle.yaml_small.specs.Step.{Transition, opened, settled, scalar_token_transition, missing_transition, inline_at, seq_entry, pairs_entry, seq_done, pairs_done, after_key_at, flow_value, flow_key, flow_fault, seq_fault}
use Rattle.yaml_small.specs.Stream.{State, Runs}
use Rattle.yaml_small.specs.RunLaws.{From, done, landed, length_pushed, popped}
use Rattle.yaml_small.specs.StepLaws.{at_open_seq, at_open_pairs, at_done_seq, at_done_pairs, at_after_key}
use Rattle.yaml_small.specs.FoundLaws.{choose, refused, went, landed_at, opened_at, Bound, bound, continues_in}

pub record FoundFlow (fl : Bool) (k : List Frame) (a : At) (es : List Event) (z : State) : Type 0 where
  pub tree : Tree
  pub end : At
  pub continues : Bool
  pub rest : List Event
  pub form : Flow fl tree a end
  pub emitted_is : es ≡ emitted tree rest
  pub runs : Runs (landed fl continues end k) rest z
  pub less : length rest < length es
  pub shallow : depth tree + length k ≤ 64

-- what is to be shown of the first n events
abbrev pub FlowLaw : ℕ → Type 0
FlowLaw n = (k : List Frame) (parent : Option ℕ) (a : At) (es : List Event) (z : State) → length es ≤ n → z.mode ≡ Ended → length k ≤ 64
    → From k (inline_at true (length k) parent a) es z → FoundFlow true k a es z

pub record FoundItems (fl : Bool) (k : List Frame) (a : At) (es : List Event) (z : State) : Type 0 where
  pub items : Trees
  pub end : At
  pub rest : List Event
  pub form : FlowItems items a end
  pub emitted_is : es ≡ each_emitted items (SequenceEnd ∷ rest)
  pub runs : Runs (landed fl false end k) rest z
  pub less : length rest < length es
  pub shallow : depths items + suc (length k) ≤ 64

pub record FoundPairs (fl : Bool) (k : List Frame) (a : At) (es : List Event) (z : State) : Type 0 where
  pub pairs : Pairs
  pub end : At
  pub rest : List Event
  pub form : FlowPairs pairs a end
  pub emitted_is : es ≡ pairs_emitted pairs (MappingEnd ∷ rest)
  pub runs : Runs (landed fl false end k) rest z
  pub less : length rest < length es
  pub shallow : pair_depths pairs + suc (length k) ≤ 64

record FoundValue (q : Bool) (k' : List Frame) (a : At) (es : List Event) (z : State) : Type 0 where
  tree : Tree
  end : At
  continues : Bool
  rest : List Event
  form : FlowValue (Flow true tree) q tree a end
  emitted_is : es ≡ emitted tree rest
  runs : Runs (done continues end k') rest z
  less : length rest < length es
  shallow : depth tree + length k' ≤ 64

-- a node in a flow list or map, whose law is known
inner : (n : ℕ) → FlowLaw n → (k : List Frame) (f : Frame) (a : At) (es : List Event) (z : State) → length es ≤ n → z.mode ≡ Ended → length k < 64
    → From (k ++ (f ∷ [])) (inline_at true (suc (length k)) None a) es z → FoundFlow true (k ++ (f ∷ [])) a es z
inner n law k f a es z le fin room h =
    let within : length (k ++ (f ∷ [])) ≤ 64 = omega (arith, length_pushed k f) in
    law (k ++ (f ∷ [])) None a es z le fin within
    (subst (λ (d : ℕ). From (k ++ (f ∷ [])) (inline_at true d None a) es z) (sym (length_pushed k f)) h)

entry_found : {P : Type 0} (fl : Bool) (k : List Frame) (d : ℕ) (a : At) (es : List Event) (z : State) → From k (seq_entry fl d a) es z
    → (begins 93 a.line ≡ true → From k (Ok (settled fl false SequenceEnd Pop (past 1 a))) es z → P) → (begins 93 a.line ≡ false → From k (inline_at true d None a) es z → P) → P
unfolding seq_entry
entry_found fl k d a es z h here there = choose k (begins 93 a.line) _ _ es z h here there

seq_further : {P : Type 0} (fl : Bool) (k : List Frame) (d : ℕ) (g : Bool) (a : At) (es : List Event) (z : State) → From k (seq_done fl d g a) es z
    → (begins 44 a.line ≡ true → From k (seq_entry fl d (flow_next (past 1 a))) es z → P)
    → (begins 44 a.line ≡ false → begins 93 a.line ≡ true → From k (Ok (settled fl false SequenceEnd Pop (past 1 a))) es z → P) → P
unfolding seq_done
seq_further fl k d g a es z h comma end =
    choose k (begins 44 a.line) _ _ es z h comma
    (λ no_comma h. choose k (begins 93 a.line) _ _ es z h (λ close h. end no_comma close h) (λ _ h. refused k (seq_fault g a) es z h))

-- the closing bracket
record Closing (fl : Bool) (k : List Frame) (e : Event) (a : At) (es : List Event) (z : State) : Type 0 where
  tail : List Event
  emitted_is : es ≡ e ∷ tail
  runs : Runs (landed fl false (past 1 a) k) tail z
  less : length tail < length es

closing : (fl : Bool) (k : List Frame) (f : Frame) (e : Event) (a : At) (es : List Event) (z : State) → From (k ++ (f ∷ [])) (Ok (settled fl false e Pop (past 1 a))) es z → Closing fl k e a es z
closing fl k f e a es z h =
    let l = landed_at (k ++ (f ∷ [])) fl false e Pop (past 1 a) es z h in
    record {
      tail = l.tail;
      emitted_is = l.emitted_is;
      runs = subst (λ (x : List Frame). Runs (landed fl false (past 1 a) x) l.tail z) (popped k f) l.runs;
      less = omega (arith, ap length l.emitted_is);
    }

items_found : (n : ℕ) → FlowLaw n → (m : ℕ) → m ≤ n → (fl : Bool) (k : List Frame) (a : At) (es : List Event) (z : State) → length es ≤ m → z.mode ≡ Ended → length k < 64
    → From (k ++ (InSeq fl ∷ [])) (seq_entry fl (suc (length k)) a) es z → FoundItems fl k a es z
items_found n law zero le fl k a [] z short fin room h = absurd h
items_found n law zero le fl k a (e ∷ es) z short fin room h = absurd (omega arith)
items_found n law (suc m) le fl k a es z short fin room h =
    let k' = k ++ (InSeq fl ∷ []) in
    entry_found fl k' (suc (length k)) a es z h
    (λ end h. let c = closing fl k (InSeq fl) SequenceEnd a es z h in
    record { items = none; end = past 1 a; rest = c.tail; form = (end, refl); emitted_is = c.emitted_is; runs = c.runs; less = c.less; shallow = omega arith })
    (λ open_item h.
    let f = inner n law k (InSeq fl) a es z (omega arith) fin room h in
    let further = subst (λ (r : Result Transition Fault). From k' r f.rest z) (at_done_seq (suc (length k)) f.continues fl f.end)
    (continues_in (Done f.continues) k (InSeq fl) f.end f.rest z (λ e. absurd cc) fin f.runs) in
    seq_further fl k' (suc (length k)) f.continues (flow_next f.end) f.rest z further
    (λ comma h.
    let i = items_found n law m (omega arith) fl k (flow_next (past 1 (flow_next f.end))) f.rest z (omega (arith, f.less)) fin room h in
    record {
      items = more f.tree i.items;
      end = i.end;
      rest = i.rest;
      form = (f.end, open_item, f.form, inl (comma, i.form));
      emitted_is = f.emitted_is ∙ ap (emitted f.tree) i.emitted_is;
      runs = i.runs;
      less = omega (arith, f.less, i.less);
      shallow = omega (arith, f.shallow, i.shallow, length_pushed k (InSeq fl));
    })
    (λ comma end h.
    let c = closing fl k (InSeq fl) SequenceEnd (flow_next f.end) f.rest z h in
    record {
      items = more f.tree none;
      end = past 1 (flow_next f.end);
      rest = c.tail;
      form = (f.end, open_item, f.form, inr (comma, end, refl, refl));
      emitted_is = f.emitted_is ∙ ap (emitted f.tree) c.emitted_is;
      runs = c.runs;
      less = omega (arith, f.less, c.less);
      shallow = omega (arith, f.shallow, length_pushed k (InSeq fl));
    }))

pairs_entry_found : {P : Type 0} (fl : Bool) (k : List Frame) (a : At) (es : List Event) (z : State) → From k (pairs_entry fl a) es z
    → (begins 125 a.line ≡ true → From k (Ok (settled fl false MappingEnd Pop (past 1 a))) es z → P) → (begins 125 a.line ≡ false → Bound (scalar_token_at true a) flow_key k es z → P) → P
unfolding pairs_entry
pairs_entry_found fl k a es z h here there =
    choose k (begins 125 a.line) _ _ es z h here (λ key h. there key (bound (scalar_token_at true a) flow_key k es z h))

pairs_further : {P : Type 0} (fl : Bool) (k : List Frame) (g : Bool) (a : At) (es : List Event) (z : State) → From k (pairs_done fl g a) es z
    → (begins 44 a.line ≡ true → From k (pairs_entry fl (flow_next (past 1 a))) es z → P)
    → (begins 44 a.line ≡ false → begins 125 a.line ≡ true → From k (Ok (settled fl false MappingEnd Pop (past 1 a))) es z → P) → P
unfolding pairs_done
pairs_further fl k g a es z h comma end =
    choose k (begins 44 a.line) _ _ es z h comma
    (λ no_comma h. choose k (begins 125 a.line) _ _ es z h (λ close h. end no_comma close h) (λ _ h. refused k (flow_fault g a) es z h))

none_found : (q : Bool) (k' : List Frame) (a b : At) (es : List Event) (z : State) → length k' ≤ 64 → FlowValue (Flow true missing) q missing a b → From k' (Ok (missing_transition b)) es z → FoundValue q k' a es z
none_found q k' a b es z within form h =
    let w = went k' (missing_transition b) es z h in
    record { tree = missing; end = b; continues = false; rest = w.tail; form = form; emitted_is = w.emitted_is; runs = w.runs; less = omega (arith, ap length w.emitted_is); shallow = omega arith }

value_found : (n : ℕ) → FlowLaw n → (k : List Frame) (f : Frame) (q g : Bool) (a : At) (es : List Event) (z : State) → length es ≤ n → z.mode ≡ Ended → length k < 64
    → From (k ++ (f ∷ [])) (after_key_at (suc (length k)) q g a) es z → FoundValue q (k ++ (f ∷ [])) a es z
unfolding after_key_at flow_value
value_found n law k f q g a es z le fin room h =
    let k' = k ++ (f ∷ []) in
    let c = flow_next a in
    let within : length k' ≤ 64 = omega (arith, length_pushed k f) in
    choose k' (is_flow_colon q c.line) _ _ es z h
    (λ colon h. choose k' (closes_value (flow_next (past 1 c)).line) _ _ es z h
    (λ close h. none_found q k' a (past 1 c) es z within (inl (colon, inl (close, refl, refl))) h)
    (λ close h.
    let v = inner n law k f (flow_next (past 1 c)) es z le fin room h in
    record { tree = v.tree; end = v.end; continues = v.continues; rest = v.rest; form = inl (colon, inr (close, v.form)); emitted_is = v.emitted_is; runs = v.runs; less = v.less; shallow = v.shallow }))
    (λ colon h. choose k' (closes_value c.line) _ _ es z h
    (λ close h. none_found q k' a a es z within (inr (colon, close, refl, refl)) h)
    (λ _ h. refused k' (flow_fault g c) es z h))

members_found : (n : ℕ) → FlowLaw n → (m : ℕ) → m ≤ n → (fl : Bool) (k : List Frame) (a : At) (es : List Event) (z : State) → length es ≤ m → z.mode ≡ Ended → length k < 64
    → From (k ++ (InPairs fl ∷ [])) (pairs_entry fl a) es z → FoundPairs fl k a es z
members_found n law zero le fl k a [] z short fin room h = absurd h
members_found n law zero le fl k a (e ∷ es) z short fin room h = absurd (omega arith)
members_found n law (suc m) le fl k a es z short fin room h =
    let k' = k ++ (InPairs fl ∷ []) in
    pairs_entry_found fl k' a es z h
    (λ end h. let c = closing fl k (InPairs fl) MappingEnd a es z h in
    record { pairs = no_pairs; end = past 1 a; rest = c.tail; form = (end, refl); emitted_is = c.emitted_is; runs = c.runs; less = c.less; shallow = omega arith })
    (λ open_pair b.
    let w = b.value in
    let s = went k' (flow_key w) es z b.continues in
    let q = is_quoted w.scalar in
    let g = continues_below w.scalar.style w.end in
    let short' : length s.tail ≤ n = omega (arith, ap length s.emitted_is) in
    let after_key = subst (λ (r : Result Transition Fault). From k' r s.tail z) (at_after_key (suc (length k)) q g (Some (InPairs fl)) w.end)
    (continues_in (AfterKey q g) k (InPairs fl) w.end s.tail z (λ e. absurd cc) fin s.runs) in
    let v = value_found n law k (InPairs fl) q g w.end s.tail z short' fin room after_key in
    let further = subst (λ (r : Result Transition Fault). From k' r v.rest z) (at_done_pairs (suc (length k)) v.continues fl v.end)
    (continues_in (Done v.continues) k (InPairs fl) v.end v.rest z (λ e. absurd cc) fin v.runs) in
    pairs_further fl k' v.continues (flow_next v.end) v.rest z further
    (λ comma h.
    let p = members_found n law m (omega arith) fl k (flow_next (past 1 (flow_next v.end))) v.rest z (omega (arith, v.less, ap length s.emitted_is)) fin room h in
    record {
      pairs = pair w.scalar v.tree p.pairs;
      end = p.end;
      rest = p.rest;
      form = (w.end, v.end, open_pair, token_form true a w b.is, v.form, inl (comma, p.form));
      emitted_is = s.emitted_is ∙ ap (λ (t : List Event). scalar_event w.scalar ∷ t) (v.emitted_is ∙ ap (emitted v.tree) p.emitted_is);
      runs = p.runs;
      less = omega (arith, v.less, p.less, ap length s.emitted_is);
      shallow = omega (arith, v.shallow, p.shallow, length_pushed k (InPairs fl));
    })
    (λ comma end h.
    let c = closing fl k (InPairs fl) MappingEnd (flow_next v.end) v.rest z h in
    record {
      pairs = pair w.scalar v.tree no_pairs;
      end = past 1 (flow_next v.end);
      rest = c.tail;
      form = (w.end, v.end, open_pair, token_form true a w b.is, v.form, inr (comma, end, refl, refl));
      emitted_is = s.emitted_is ∙ ap (λ (t : List Event). scalar_event w.scalar ∷ t) (v.emitted_is ∙ ap (emitted v.tree) c.emitted_is);
      runs = c.runs;
      less = omega (arith, v.less, c.less, ap length s.emitted_is);
      shallow = omega (arith, v.shallow, length_pushed k (InPairs fl));
    }))

-- a node in brackets, in a flow or not, and a scalar
pub seq_found : (n : ℕ) → FlowLaw n → (fl : Bool) (k : List Frame) (a : At) (es : List Event) (z : State) → length es ≤ suc n → z.mode ≡ Ended → begins 91 a.line ≡ true
    → From k (opened (length k) SequenceStart (past 1 a) Open (InSeq fl)) es z → FoundFlow fl k a es z
seq_found n law fl k a es z le fin begin h =
    let o = opened_at k (length k) SequenceStart (past 1 a) Open (InSeq fl) es z h in
    let entry = subst (λ (r : Result Transition Fault). From (k ++ (InSeq fl ∷ [])) r o.tail z) (at_open_seq (suc (length k)) fl (past 1 a))
    (continues_in Open k (InSeq fl) (past 1 a) o.tail z (λ e. absurd cc) fin o.runs) in
    let i = items_found n law n (omega arith) fl k (flow_next (past 1 a)) o.tail z (omega (arith, ap length o.emitted_is)) fin o.room entry in
    record {
      tree = Seq i.items;
      end = i.end;
      continues = false;
      rest = i.rest;
      form = (begin, i.form);
      emitted_is = o.emitted_is ∙ ap (λ (t : List Event). SequenceStart ∷ t) i.emitted_is;
      runs = i.runs;
      less = omega (arith, i.less, ap length o.emitted_is);
      shallow = omega (arith, i.shallow);
    }

pub map_found : (n : ℕ) → FlowLaw n → (fl : Bool) (k : List Frame) (a : At) (es : List Event) (z : State) → length es ≤ suc n → z.mode ≡ Ended → begins 123 a.line ≡ true
    → From k (opened (length k) MappingStart (past 1 a) Open (InPairs fl)) es z → FoundFlow fl k a es z
map_found n law fl k a es z le fin begin h =
    let o = opened_at k (length k) MappingStart (past 1 a) Open (InPairs fl) es z h in
    let entry = subst (λ (r : Result Transition Fault). From (k ++ (InPairs fl ∷ [])) r o.tail z) (at_open_pairs (suc (length k)) fl (past 1 a))
    (continues_in Open k (InPairs fl) (past 1 a) o.tail z (λ e. absurd cc) fin o.runs) in
    let p = members_found n law n (omega arith) fl k (flow_next (past 1 a)) o.tail z (omega (arith, ap length o.emitted_is)) fin o.room entry in
    record {
      tree = Map p.pairs;
      end = p.end;
      continues = false;
      rest = p.rest;
      form = (begin, p.form);
      emitted_is = o.emitted_is ∙ ap (λ (t : List Event). MappingStart ∷ t) p.emitted_is;
      runs = p.runs;
      less = omega (arith, p.less, ap length o.emitted_is);
      shallow = omega (arith, p.shallow);
    }

pub scalar_token_found : (fl : Bool) (k : List Frame) (a : At) (es : List Event) (z : State) → length k ≤ 64 → Bound (scalar_token_at fl a) (scalar_token_transition fl) k es z → FoundFlow fl k a es z
scalar_token_found fl k a es z within b =
    let w = b.value in
    let l = landed_at k fl (continues_below w.scalar.style w.end) (scalar_event w.scalar) Keep w.end es z b.continues in
    record {
      tree = Leaf w.scalar;
      end = w.end;
      continues = continues_below w.scalar.style w.end;
      rest = l.tail;
      form = token_form fl a w b.is;
      emitted_is = l.emitted_is;
      runs = l.runs;
      less = omega (arith, ap length l.emitted_is);
      shallow = omega arith;
    }

pub flow_law : (n : ℕ) → FlowLaw n
unfolding inline_at
flow_law zero k parent a [] z le fin within h = absurd h
flow_law zero k parent a (e ∷ es) z le fin within h = absurd (omega arith)
flow_law (suc n) k parent a es z le fin within h =
    choose k (begins 91 a.line) _ _ es z h (λ begin h. seq_found n (flow_law n) true k a es z le fin begin h)
    (λ _ h. choose k (begins 123 a.line) _ _ es z h (λ begin h. map_found n (flow_law n) true k a es z le fin begin h)
    (λ _ h. scalar_token_found true k a es z within (bound (scalar_token_at true a) (scalar_token_transition true) k es z h)))
