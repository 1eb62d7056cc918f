-- Flow nodes are emitted.
use Rattle.std.proofs.Common.{◌≡◌, ℕ, suc, ◌+◌, ◌≤◌, List, [], ◌∷◌, ◌++◌, length, Bool, true, false, cond, Option, Some, None, Result, Ok, refl, sym, ◌∙◌, subst, inl, inr, arith}
use Rattle.yaml_small.specs.declared.event.Event.{Event}
use Rattle.yaml_small.specs.declared.event.Event.TheVariants.{SequenceStart, SequenceEnd, MappingStart, MappingEnd}
use Rattle.yaml_small.specs.declared.state.Mode.TheVariants.{Open, AfterKey, Done}
use Rattle.yaml_small.specs.declared.state.Frame.{Frame}
use Rattle.yaml_small.specs.declared.state.Frame.TheVariants.{InSeq, InPairs}
use Rattle.yaml_small.specs.declared.state.Change.TheVariants.{Pop}
use Rattle.yaml_small.specs.Trees.{Tree, Leaf, Seq, Map, Trees, none, more, Pairs, no_pairs, pair, missing, scalar_event, depth, depths, pair_depths, emitted, each_emitted, pairs_emitted}
use Rattle.yaml_small.specs.Places.{At, past, flow_next, begins}
use Rattle.yaml_small.specs.Scalars.{Fault, ScalarToken, scalar_token_at, continues_below}
use Rattle.yaml_small.specs.Grammar.{Flow, FlowItems, FlowPairs, FlowValue, is_none, is_no_pairs, is_quoted, is_flow_colon, closes_value}
use Rattle.yaml_small.specs.ScalarLaws.{token_scanned}
use Rattle.yaml_small.specs.Step.{Transition, settled, inline_at, seq_entry, pairs_entry, seq_done, pairs_done, after_key_at, flow_value, flow_key, missing_transition}
use Rattle.yaml_small.specs.Stream.{State, Runs}
use Rattle.yaml_small.specs.MarkLaws.{scalar_token_opener}
use Rattle.yaml_small.specs.RunLaws.{From, done, landed, runs_in, settles, closes, length_pushed}
use Rattle.yaml_small.specs.StepLaws.{pushes, misses, by, inline_seq, inline_map, inline_scalar_token, begins_other, at_open_seq, at_open_pairs, at_done_seq, at_done_pairs, at_after_key}

entry_ends : (fl : Bool) (d : ℕ) (a : At) → begins 93 a.line ≡ true → seq_entry fl d a ≡ Ok (settled fl false SequenceEnd Pop (past 1 a))
unfolding seq_entry
entry_ends fl d a e = rw e refl

entry_continues : (fl : Bool) (d : ℕ) (a : At) → begins 93 a.line ≡ false → seq_entry fl d a ≡ inline_at true d None a
unfolding seq_entry
entry_continues fl d a e = rw e refl

pairs_end : (fl : Bool) (a : At) → begins 125 a.line ≡ true → pairs_entry fl a ≡ Ok (settled fl false MappingEnd Pop (past 1 a))
unfolding pairs_entry
pairs_end fl a e = rw e refl

pairs_transition : (fl : Bool) (a : At) (w : ScalarToken) → begins 125 a.line ≡ false → scalar_token_at true a ≡ Ok w → pairs_entry fl a ≡ Ok (flow_key w)
unfolding pairs_entry
pairs_transition fl a w e h = rw (e, h) refl

seq_comma : (fl : Bool) (d : ℕ) (g : Bool) (a : At) → begins 44 a.line ≡ true → seq_done fl d g a ≡ seq_entry fl d (flow_next (past 1 a))
unfolding seq_done
seq_comma fl d g a e = rw e refl

seq_last : (fl : Bool) (d : ℕ) (g : Bool) (a : At) → begins 44 a.line ≡ false → begins 93 a.line ≡ true → seq_done fl d g a ≡ Ok (settled fl false SequenceEnd Pop (past 1 a))
unfolding seq_done
seq_last fl d g a e f = rw (e, f) refl

pairs_comma : (fl g : Bool) (a : At) → begins 44 a.line ≡ true → pairs_done fl g a ≡ pairs_entry fl (flow_next (past 1 a))
unfolding pairs_done
pairs_comma fl g a e = rw e refl

pairs_last : (fl g : Bool) (a : At) → begins 44 a.line ≡ false → begins 125 a.line ≡ true → pairs_done fl g a ≡ Ok (settled fl false MappingEnd Pop (past 1 a))
unfolding pairs_done
pairs_last fl g a e f = rw (e, f) refl

pub bools_chosen : {X : Type 0} (b c : Bool) (x y u : X) → b ≡ false → c ≡ true → cond b x (cond c y u) ≡ y
bools_chosen b c x y u e f = rw (e, f) refl

pub bool_chosen : {X : Type 0} (b : Bool) (x y : X) → b ≡ true → cond b x y ≡ x
bool_chosen b x y e = rw e refl

pub bool_passed : {X : Type 0} (b : Bool) (x y : X) → b ≡ false → cond b x y ≡ y
bool_passed b x y e = rw e refl

after_key_colon : (d : ℕ) (q g : Bool) (a : At) → is_flow_colon q (flow_next a).line ≡ true → after_key_at d q g a ≡ flow_value d (past 1 (flow_next a))
unfolding after_key_at
after_key_colon d q g a e = bool_chosen (is_flow_colon q (flow_next a).line) _ _ e

after_key_none : (d : ℕ) (q g : Bool) (a : At) → is_flow_colon q (flow_next a).line ≡ false → closes_value (flow_next a).line ≡ true → after_key_at d q g a ≡ Ok (missing_transition a)
unfolding after_key_at
after_key_none d q g a e f = bools_chosen (is_flow_colon q (flow_next a).line) (closes_value (flow_next a).line) _ _ _ e f

value_none : (d : ℕ) (a : At) → closes_value (flow_next a).line ≡ true → flow_value d a ≡ Ok (missing_transition a)
unfolding flow_value
value_none d a e = bool_chosen (closes_value (flow_next a).line) _ _ e

value_continues : (d : ℕ) (a : At) → closes_value (flow_next a).line ≡ false → flow_value d a ≡ inline_at true d None (flow_next a)
unfolding flow_value
value_continues d a e = bool_passed (closes_value (flow_next a).line) _ _ e

-- a node that is missing
pub missing_emitted : (t : Tree) (k : List Frame) (r : Result Transition Fault) (a b : At) (es : List Event) (z : State) → t ≡ missing → b ≡ a → r ≡ Ok (missing_transition a)
    → Runs (done false b k) es z → From k r (emitted t es) z
missing_emitted t k r a b es z miss there is rest =
    subst (λ (x : Tree). From k r (emitted x es) z) (sym miss) (misses k r a es z is (subst (λ (x : At). Runs (done false x k) es z) there rest))

-- what is to be shown of each tree: behind a flow node come the events that follow it
abbrev FlowEmitted : Tree → Type 0
FlowEmitted t = (fl : Bool) (k : List Frame) (parent : Option ℕ) (a b : At) (es : List Event) (z : State) → depth t + length k ≤ 64 → Flow fl t a b
    → ((g : Bool) → Runs (landed fl g b k) es z) → From k (inline_at fl (length k) parent a) (emitted t es) z

value_emitted : (t : Tree) → FlowEmitted t → (k : List Frame) (fl : Bool) (a b : At) (q g : Bool) (es : List Event) (z : State) → depth t + suc (length k) ≤ 64 → FlowValue (Flow true t) q t a b
    → ((g : Bool) → Runs (done g b (k ++ (InPairs fl ∷ []))) es z) → From (k ++ (InPairs fl ∷ [])) (after_key_at (suc (length k)) q g a) (emitted t es) z
value_emitted t law k fl a b q g es z deep (inl (colon, inl (close, miss, there))) rest =
    by (k ++ (InPairs fl ∷ [])) _ _ (emitted t es) z (after_key_colon (suc (length k)) q g a colon)
    (missing_emitted t (k ++ (InPairs fl ∷ [])) _ (past 1 (flow_next a)) b es z miss there (value_none (suc (length k)) (past 1 (flow_next a)) close) (rest false))
value_emitted t law k fl a b q g es z deep (inl (colon, inr (close, form))) rest =
    let k' = k ++ (InPairs fl ∷ []) in
    let deeper : depth t + length k' ≤ 64 = omega (arith, length_pushed k (InPairs fl)) in
    by k' _ _ (emitted t es) z (after_key_colon (suc (length k)) q g a colon ∙ value_continues (suc (length k)) (past 1 (flow_next a)) close)
    (subst (λ (n : ℕ). From k' (inline_at true n None (flow_next (past 1 (flow_next a)))) (emitted t es) z) (length_pushed k (InPairs fl))
    (law true k' None (flow_next (past 1 (flow_next a))) b es z deeper form rest))
value_emitted t law k fl a b q g es z deep (inr (colon, close, miss, there)) rest =
    missing_emitted t (k ++ (InPairs fl ∷ [])) _ a b es z miss there (after_key_none (suc (length k)) q g a colon close) (rest false)

mutual
  -- behind a flow node come the events that follow it
  pub flow_emitted : (t : Tree) (fl : Bool) (k : List Frame) (parent : Option ℕ) (a b : At) (es : List Event) (z : State) → depth t + length k ≤ 64 → Flow fl t a b
      → ((g : Bool) → Runs (landed fl g b k) es z) → From k (inline_at fl (length k) parent a) (emitted t es) z
  flow_emitted (Leaf s) fl k parent a b es z deep h rest =
      let w : ScalarToken = record { scalar = s; end = b } in
      let scanned = token_scanned fl s a b h in
      settles k (inline_at fl (length k) parent a) fl (continues_below s.style b) (scalar_event s) b es z
      (inline_scalar_token fl (length k) parent a w (scalar_token_opener fl a.col a.line a.later w scanned) scanned) (rest (continues_below s.style b))
  flow_emitted (Seq ts) fl k parent a b es z deep (begin, items) rest =
      pushes k (inline_at fl (length k) parent a) SequenceStart (past 1 a) Open (InSeq fl) (each_emitted ts (SequenceEnd ∷ es)) z (inline_seq fl (length k) parent a begin) (omega arith)
      (runs_in Open k (InSeq fl) (past 1 a) (each_emitted ts (SequenceEnd ∷ es)) z
      (by (k ++ (InSeq fl ∷ [])) _ _ (each_emitted ts (SequenceEnd ∷ es)) z (at_open_seq (suc (length k)) fl (past 1 a))
      (items_emitted ts fl k (flow_next (past 1 a)) b es z (omega arith) items rest)))
  flow_emitted (Map ps) fl k parent a b es z deep (begin, pairs) rest =
      pushes k (inline_at fl (length k) parent a) MappingStart (past 1 a) Open (InPairs fl) (pairs_emitted ps (MappingEnd ∷ es)) z
      (inline_map fl (length k) parent a (begins_other 123 91 a.line refl begin) begin) (omega arith)
      (runs_in Open k (InPairs fl) (past 1 a) (pairs_emitted ps (MappingEnd ∷ es)) z
      (by (k ++ (InPairs fl ∷ [])) _ _ (pairs_emitted ps (MappingEnd ∷ es)) z (at_open_pairs (suc (length k)) fl (past 1 a))
      (members_emitted ps fl k (flow_next (past 1 a)) b es z (omega arith) pairs rest)))

  items_emitted : (ts : Trees) (fl : Bool) (k : List Frame) (a b : At) (es : List Event) (z : State) → depths ts + suc (length k) ≤ 64 → FlowItems ts a b
      → ((g : Bool) → Runs (landed fl g b k) es z) → From (k ++ (InSeq fl ∷ [])) (seq_entry fl (suc (length k)) a) (each_emitted ts (SequenceEnd ∷ es)) z
  items_emitted none fl k a b es z deep (end, there) rest =
      closes k (InSeq fl) (seq_entry fl (suc (length k)) a) fl SequenceEnd (past 1 a) es z (entry_ends fl (suc (length k)) a end) (subst (λ (x : At). Runs (landed fl false x k) es z) there (rest false))
  items_emitted (more t ts) fl k a b es z deep (m, begin, form, further) rest =
      let k' = k ++ (InSeq fl ∷ []) in
      let deeper : depth t + length k' ≤ 64 = omega (arith, length_pushed k (InSeq fl)) in
      by k' _ _ (emitted t (each_emitted ts (SequenceEnd ∷ es))) z (entry_continues fl (suc (length k)) a begin)
      (subst (λ (n : ℕ). From k' (inline_at true n None a) (emitted t (each_emitted ts (SequenceEnd ∷ es))) z) (length_pushed k (InSeq fl))
      (flow_emitted t true k' None a m (each_emitted ts (SequenceEnd ∷ es)) z deeper form
      (λ g. runs_in (Done g) k (InSeq fl) m (each_emitted ts (SequenceEnd ∷ es)) z
      (by k' _ _ (each_emitted ts (SequenceEnd ∷ es)) z (at_done_seq (suc (length k)) g fl m)
      (elim further [
        | inl (comma, items) ↦ by k' _ _ (each_emitted ts (SequenceEnd ∷ es)) z (seq_comma fl (suc (length k)) g (flow_next m) comma)
            (items_emitted ts fl k (flow_next (past 1 (flow_next m))) b es z (omega arith) items rest)
        | inr (comma, end, last, there) ↦ last_item ts fl g k (flow_next m) b es z comma end last there rest
      ])))))

  members_emitted : (ps : Pairs) (fl : Bool) (k : List Frame) (a b : At) (es : List Event) (z : State) → pair_depths ps + suc (length k) ≤ 64 → FlowPairs ps a b
      → ((g : Bool) → Runs (landed fl g b k) es z) → From (k ++ (InPairs fl ∷ [])) (pairs_entry fl a) (pairs_emitted ps (MappingEnd ∷ es)) z
  members_emitted no_pairs fl k a b es z deep (end, there) rest =
      closes k (InPairs fl) (pairs_entry fl a) fl MappingEnd (past 1 a) es z (pairs_end fl a end) (subst (λ (x : At). Runs (landed fl false x k) es z) there (rest false))
  members_emitted (pair key t ps) fl k a b es z deep (m, n, begin, scalar_token, value, further) rest =
      let k' = k ++ (InPairs fl ∷ []) in
      let g0 = continues_below key.style m in
      let more_pairs = pairs_emitted ps (MappingEnd ∷ es) in
      let onward : (g : Bool) → Runs (done g n k') more_pairs z =
      λ g. runs_in (Done g) k (InPairs fl) n more_pairs z
      (by k' _ _ more_pairs z (at_done_pairs (suc (length k)) g fl n)
      (elim further [
        | inl (comma, pairs) ↦ by k' _ _ more_pairs z (pairs_comma fl g (flow_next n) comma)
            (members_emitted ps fl k (flow_next (past 1 (flow_next n))) b es z (omega arith) pairs rest)
        | inr (comma, end, last, there) ↦ last_pair ps fl g k (flow_next n) b es z comma end last there rest
      ])) in (
        flow_key (record { scalar = key; end = m }),
        pairs_transition fl a (record { scalar = key; end = m }) begin (token_scanned true key a m scalar_token),
        refl,
        runs_in (AfterKey (is_quoted key) g0) k (InPairs fl) m (emitted t more_pairs) z
            (by k' _ _ (emitted t more_pairs) z (at_after_key (suc (length k)) (is_quoted key) g0 (Some (InPairs fl)) m)
            (value_emitted t (flow_emitted t) k fl m n (is_quoted key) g0 more_pairs z (omega arith) value onward)),
      )

  last_item : (ts : Trees) (fl g : Bool) (k : List Frame) (a b : At) (es : List Event) (z : State) → begins 44 a.line ≡ false → begins 93 a.line ≡ true → is_none ts ≡ true → b ≡ past 1 a
      → ((g : Bool) → Runs (landed fl g b k) es z) → From (k ++ (InSeq fl ∷ [])) (seq_done fl (suc (length k)) g a) (each_emitted ts (SequenceEnd ∷ es)) z
  last_item none fl g k a b es z comma end last there rest =
      closes k (InSeq fl) (seq_done fl (suc (length k)) g a) fl SequenceEnd (past 1 a) es z (seq_last fl (suc (length k)) g a comma end) (subst (λ (x : At). Runs (landed fl false x k) es z) there (rest false))
  last_item (more t ts) fl g k a b es z comma end last there rest = absurd cc

  last_pair : (ps : Pairs) (fl g : Bool) (k : List Frame) (a b : At) (es : List Event) (z : State) → begins 44 a.line ≡ false → begins 125 a.line ≡ true → is_no_pairs ps ≡ true → b ≡ past 1 a
      → ((g : Bool) → Runs (landed fl g b k) es z) → From (k ++ (InPairs fl ∷ [])) (pairs_done fl g a) (pairs_emitted ps (MappingEnd ∷ es)) z
  last_pair no_pairs fl g k a b es z comma end last there rest =
      closes k (InPairs fl) (pairs_done fl g a) fl MappingEnd (past 1 a) es z (pairs_last fl g a comma end) (subst (λ (x : At). Runs (landed fl false x k) es z) there (rest false))
  last_pair (pair key t ps) fl g k a b es z comma end last there rest = absurd cc
