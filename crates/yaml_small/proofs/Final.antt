-- A text that is refused before its end is refused whatever lines follow.
use Rattle.std.proofs.Common.{◌≡◌, ℕ, List, [], ◌∷◌, ◌++◌, drop, length, Bool, true, false, not, cond, ◌&&◌, ◌||◌, eqb, ltb, leb, Option, Some, None, Result, Ok, Err, refl, sym, ap, ◌∙◌, subst, inl, inr, arith}
use Rattle.yaml_scan.specs.Bytes.{spaces, whites}
use Rattle.yaml_scan.specs.Lines.{lines_of, ends}
use Rattle.yaml_small.specs.declared.event.Event.{Event}
use Rattle.yaml_small.specs.declared.event.Event.TheVariants.{StreamStart, StreamEnd, DocumentStart, DocumentEnd, SequenceStart, SequenceEnd, MappingStart, MappingEnd}
use Rattle.yaml_small.specs.declared.state.Mode.{Mode}
use Rattle.yaml_small.specs.declared.state.Mode.TheVariants.{Begin, Document, Root, Item, Key, Value, Open, AfterKey, Done, Trailing, Last, Ended}
use Rattle.yaml_small.specs.declared.state.Frame.{Frame}
use Rattle.yaml_small.specs.declared.state.Frame.TheVariants.{InList, InMap, InSeq, InPairs}
use Rattle.yaml_small.specs.declared.state.Change.{Change}
use Rattle.yaml_small.specs.declared.state.Change.TheVariants.{Keep, Push, Pop}
use Rattle.yaml_small.specs.Trees.{Tree, tilde, scalar_event}
use Rattle.yaml_small.specs.Places.{At, past, over, next_at, flow_next, is_end, begins, at_dashes, at_dots, is_within, is_dash, at_dash, list_ends, map_ends}
use Rattle.yaml_small.specs.Scalars.{Fault, Form, NotCarried, TooDeep, Cut, scalar_token_at, key_at, is_key, block_at, begins_block, continues_below, plain_at}
use Rattle.yaml_small.specs.Grammar.{closes_value, is_flow_colon, is_quoted, without_mark, Carried}
use Rattle.yaml_small.specs.Step.{Transition, transition, opened, list_start, map_start, scalar_token_transition, missing_transition, inline_at, node_at, below, tabbed, item_at, under, value_at, explicit_at, key_transition, key_step, seq_entry, flow_key, pairs_entry, open_at, flow_fault, flow_value, after_key_at, seq_done, pairs_done, line_fault, list_done, map_done, dots_end, root_done, done_at, document_at, last_at, step_at}
use Rattle.yaml_small.specs.Stream.{State, top_of, changed, behind, moved, start, next, Runs, Refuses, IsFinal}
use Rattle.yaml_small.specs.RunLaws.{step_of, from_of}
use Rattle.yaml_small.specs.UniqueLaws.{refused_not_carried}
use Rattle.yaml_small.specs.GrowthLaws.{grown, the_end, Grows, Over, SameMode, quiet, chosen, faults, continues, at_next, at_token, settles, reads, block_reads, block_grown, scalar_token_grown, key_grown, same_key, next_grown}
use Rattle.yaml_scan.specs.Block.{is_deeper}
use Rattle.std.proofs.lemmas.Bool.{le-leb}

module _ (more : List (List ℕ)) where
  opens : (d : ℕ) (e : Event) (a : At) (m : Mode) (f : Frame) → Grows more (opened d e a m f) (opened d e (grown more a) m f)
  unfolding opened
  opens d e a m f = chosen more (ltb d 64) _ _ _ _ (continues more e a m m (Push f) (inl refl)) (faults more TooDeep TooDeep)

  inline : (fl : Bool) (d : ℕ) (parent : Option ℕ) (a : At) → Grows more (inline_at fl d parent a) (inline_at fl d parent (grown more a))
  unfolding inline_at
  inline fl d parent a =
      chosen more (begins 91 a.line) _ _ _ _ (opens d SequenceStart (past 1 a) Open (InSeq fl))
      (chosen more (begins 123 a.line) _ _ _ _ (opens d MappingStart (past 1 a) Open (InPairs fl))
      (chosen more (not fl && begins_block a.line) _ _ _ _ (block_reads more (block_at parent a) (block_at parent (grown more a)) (block_grown more parent a))
      (reads more (scalar_token_at fl a) (scalar_token_at fl (grown more a)) (scalar_token_transition fl) (scalar_token_transition fl)
      (λ w. settles more fl (continues_below w.scalar.style w.end) (continues_below w.scalar.style (grown more w.end)) (scalar_event w.scalar) Keep w.end) (scalar_token_grown more fl a))))

  list : (d : ℕ) (a : At) → Grows more (list_start d a) (list_start d (grown more a))
  unfolding list_start
  list d a = opens d SequenceStart (past 1 a) (Item a.col) (InList a.col)

  map : (d : ℕ) (a : At) → Grows more (map_start d a) (map_start d (grown more a))
  unfolding map_start
  map d a = opens d MappingStart a Key (InMap a.col)

  -- a test for a key, which is the same
  keyed : (a : At) (x y u v : Result Transition Fault) → Grows more x u → Grows more y v → Grows more (cond (is_key a) x y) (cond (is_key (grown more a)) u v)
  keyed a x y u v p q = subst (λ (b : Bool). Grows more (cond (is_key a) x y) (cond b u v)) (sym (same_key more a)) (chosen more (is_key a) x y u v p q)

  node : (d : ℕ) (parent : Option ℕ) (a : At) → Grows more (node_at d parent a) (node_at d parent (grown more a))
  unfolding node_at
  node d parent a = chosen more (is_dash a.line) _ _ _ _ (list d a) (keyed a _ _ _ _ (map d a) (inline false d parent a))

  lower : (d : ℕ) (parent : Option ℕ) (a : At) → Grows more (below d parent a) (below d parent (grown more a))
  unfolding below
  lower d parent a = chosen more (is_within parent a) _ _ _ _ (node d parent a) (continues more (scalar_event tilde) a (Done false) (Done false) Keep (inl refl))

  lower_end : (d : ℕ) (parent : Option ℕ) → Over (below d parent the_end)
  unfolding below
  lower_end d parent = from (is_deeper parent 0)
    where
      from : (b : Bool) → Over (cond (b && false) (node_at d parent the_end) (Ok (missing_transition the_end)))
      from true = (refl, refl)
      from false = (refl, refl)

  item : (d col : ℕ) (a : At) → Grows more (item_at d col a) (item_at d col (grown more a))
  unfolding item_at tabbed
  item d col a =
      chosen more (ends a.line) _ _ _ _ (at_next more a.later (below d (Some col)) (below d (Some col)) (lower d (Some col)) (lower_end d (Some col)))
      (chosen more (eqb (spaces a.line) (whites a.line)) _ _ _ _ (node d (Some col) (over a))
      (subst (λ (b : Bool). Grows more (cond (is_dash (over a).line || is_key (over a)) (Err NotCarried) (inline_at false d (Some col) (over a))) (cond (is_dash (over a).line || b) (Err NotCarried) (inline_at false d (Some col) (grown more (over a)))))
      (sym (same_key more (over a)))
      (chosen more (is_dash (over a).line || is_key (over a)) _ _ _ _ (faults more NotCarried NotCarried) (inline false d (Some col) (over a)))))

  beneath : (d col : ℕ) (a : At) → Grows more (under d col a) (under d col (grown more a))
  unfolding under
  beneath d col a = chosen more (at_dash col a) _ _ _ _ (list d a) (lower d (Some col) a)

  beneath_end : (d col : ℕ) → Over (under d col the_end)
  unfolding under
  beneath_end d col = from (eqb 0 col)
    where
      from : (b : Bool) → Over (cond (b && false) (list_start d the_end) (below d (Some col) the_end))
      from true = lower_end d (Some col)
      from false = lower_end d (Some col)

  value : (d col : ℕ) (a : At) → Grows more (value_at d col a) (value_at d col (grown more a))
  unfolding value_at
  value d col a = chosen more (ends a.line) _ _ _ _ (at_next more a.later (under d col) (under d col) (beneath d col) (beneath_end d col)) (inline false d (Some col) (over a))

  explicit : (d : ℕ) (a : At) → Grows more (explicit_at d a) (explicit_at d (grown more a))
  unfolding explicit_at
  explicit d a =
      chosen more (ends a.line) _ _ _ _ (at_next more a.later (below d None) (below d None) (lower d None) (lower_end d None))
      (chosen more (eqb (spaces a.line) (whites a.line)) _ _ _ _ (inline false d None (over a)) (faults more NotCarried NotCarried))

  key : (a : At) → Grows more (key_step a) (key_step (grown more a))
  unfolding key_step
  key a = reads more (key_at a) (key_at (grown more a)) (key_transition a.col) (key_transition a.col) (λ w. continues more (scalar_event w.scalar) w.end (Value a.col) (Value a.col) Keep (inl refl)) (key_grown more a)

  seq : (fl : Bool) (d : ℕ) (a : At) → Grows more (seq_entry fl d a) (seq_entry fl d (grown more a))
  unfolding seq_entry
  seq fl d a = chosen more (begins 93 a.line) _ _ _ _ (settles more fl false false SequenceEnd Pop (past 1 a)) (inline true d None a)

  inline_end : (d : ℕ) → Over (inline_at true d None the_end)
  unfolding inline_at scalar_token_at plain_at
  inline_end d = tt

  seq_end : (fl : Bool) (d : ℕ) → Over (seq_entry fl d the_end)
  unfolding seq_entry
  seq_end fl d = inline_end d

  pairs : (fl : Bool) (a : At) → Grows more (pairs_entry fl a) (pairs_entry fl (grown more a))
  unfolding pairs_entry
  pairs fl a =
      chosen more (begins 125 a.line) _ _ _ _ (settles more fl false false MappingEnd Pop (past 1 a))
      (reads more (scalar_token_at true a) (scalar_token_at true (grown more a)) flow_key flow_key
      (λ w. let q = is_quoted w.scalar in let g = continues_below w.scalar.style w.end in let h = continues_below w.scalar.style (grown more w.end) in
      continues more (scalar_event w.scalar) w.end (AfterKey q g) (AfterKey q h) Keep (inr (inr (q, (g, (h, (refl, refl)))))))
      (scalar_token_grown more true a))

  pairs_end : (fl : Bool) → Over (pairs_entry fl the_end)
  unfolding pairs_entry scalar_token_at plain_at
  pairs_end fl = tt

  opening : (d : ℕ) (f : Option Frame) (a : At) → Grows more (open_at d f a) (open_at d f (grown more a))
  unfolding open_at
  opening d None a = faults more Form Form
  opening d (Some (InList col)) a = faults more Form Form
  opening d (Some (InMap col)) a = faults more Form Form
  opening d (Some (InSeq fl)) a = at_token more a (seq_entry fl d) (seq_entry fl d) (seq fl d) (seq_end fl d)
  opening d (Some (InPairs fl)) a = at_token more a (pairs_entry fl) (pairs_entry fl) (pairs fl) (pairs_end fl)

  missing_continues : (a : At) → Grows more (Ok (missing_transition a)) (Ok (missing_transition (grown more a)))
  missing_continues a = continues more (scalar_event tilde) a (Done false) (Done false) Keep (inl refl)

  flowing : (d : ℕ) (a : At) → Grows more (flow_value d a) (flow_value d (grown more a))
  unfolding flow_value
  flowing d a =
      at_token more a (λ b. cond (closes_value b.line) (Ok (missing_transition a)) (inline_at true d None b)) (λ b. cond (closes_value b.line) (Ok (missing_transition (grown more a))) (inline_at true d None b))
      (λ b. chosen more (closes_value b.line) _ _ _ _ (missing_continues a) (inline true d None b)) (inline_end d)

  after_key : (d : ℕ) (q g h : Bool) (a : At) → Grows more (after_key_at d q g a) (after_key_at d q h (grown more a))
  unfolding after_key_at
  after_key d q g h a =
      at_token more a
      (λ b. cond (is_flow_colon q b.line) (flow_value d (past 1 b)) (cond (closes_value b.line) (Ok (missing_transition a)) (Err (flow_fault g b))))
      (λ b. cond (is_flow_colon q b.line) (flow_value d (past 1 b)) (cond (closes_value b.line) (Ok (missing_transition (grown more a))) (Err (flow_fault h b))))
      (λ b. chosen more (is_flow_colon q b.line) _ _ _ _ (flowing d (past 1 b)) (chosen more (closes_value b.line) _ _ _ _ (missing_continues a) (faults more _ _)))
      tt

  seq_behind : (fl : Bool) (d : ℕ) (g h : Bool) (a : At) → Grows more (seq_done fl d g a) (seq_done fl d h (grown more a))
  unfolding seq_done
  seq_behind fl d g h a =
      chosen more (begins 44 a.line) _ _ _ _ (at_token more (past 1 a) (seq_entry fl d) (seq_entry fl d) (seq fl d) (seq_end fl d))
      (chosen more (begins 93 a.line) _ _ _ _ (settles more fl false false SequenceEnd Pop (past 1 a)) (faults more _ _))

  seq_behind_end : (fl : Bool) (d : ℕ) (g : Bool) → Over (seq_done fl d g the_end)
  unfolding seq_done
  seq_behind_end fl d g = tt

  pairs_behind : (fl g h : Bool) (a : At) → Grows more (pairs_done fl g a) (pairs_done fl h (grown more a))
  unfolding pairs_done
  pairs_behind fl g h a =
      chosen more (begins 44 a.line) _ _ _ _ (at_token more (past 1 a) (pairs_entry fl) (pairs_entry fl) (pairs fl) (pairs_end fl))
      (chosen more (begins 125 a.line) _ _ _ _ (settles more fl false false MappingEnd Pop (past 1 a)) (faults more _ _))

  pairs_behind_end : (fl g : Bool) → Over (pairs_done fl g the_end)
  unfolding pairs_done
  pairs_behind_end fl g = tt

  block_ends : (e : Event) (a : At) → Grows more (Ok (transition e a (Done false) Pop)) (Ok (transition e (grown more a) (Done false) Pop))
  block_ends e a = continues more e a (Done false) (Done false) Pop (inl refl)

  dots : (a : At) → Grows more (dots_end a) (dots_end (grown more a))
  unfolding dots_end
  dots a =
      chosen more (ends (drop 3 a.line)) _ _ _ _
      (at_next more a.later (λ b. Ok (transition DocumentEnd b Last Keep)) (λ b. Ok (transition DocumentEnd b Last Keep)) (λ b. continues more DocumentEnd b Last Last Keep (inl refl)) (refl, refl))
      (faults more Form Form)

  root : (g h : Bool) (a : At) → Grows more (root_done g a) (root_done h (grown more a))
  unfolding root_done
  root g h a =
      chosen more (is_end a) _ _ _ _ (continues more DocumentEnd a Last Last Keep (inl refl))
      (chosen more (at_dots a) _ _ _ _ (dots a) (faults more _ _))

  behind_node : (d : ℕ) (g h : Bool) (f : Option Frame) (a : At) → Grows more (done_at d g f a) (done_at d h f (grown more a))
  unfolding done_at list_done map_done
  behind_node d g h None a = root g h a
  behind_node d g h (Some (InList col)) a =
      chosen more (list_ends col a) _ _ _ _ (block_ends SequenceEnd a) (chosen more (at_dash col a) _ _ _ _ (item d col (past 1 a)) (faults more _ _))
  behind_node d g h (Some (InMap col)) a =
      chosen more (map_ends col a) _ _ _ _ (block_ends MappingEnd a) (chosen more (eqb a.col col) _ _ _ _ (key a) (faults more _ _))
  behind_node d g h (Some (InSeq fl)) a = at_token more a (seq_done fl d g) (seq_done fl d h) (seq_behind fl d g h) (seq_behind_end fl d g)
  behind_node d g h (Some (InPairs fl)) a = at_token more a (pairs_done fl g) (pairs_done fl h) (pairs_behind fl g h) (pairs_behind_end fl g)

  document : (a : At) → Grows more (document_at a) (document_at (grown more a))
  unfolding document_at
  document a =
      chosen more (is_end a) _ _ _ _ (continues more StreamEnd a Ended Ended Keep (inl refl))
      (chosen more (at_dashes a) _ _ _ _ (continues more DocumentStart (past 3 a) (Root true) (Root true) Keep (inl refl))
      (chosen more (begins 37 a.line) _ _ _ _ (faults more NotCarried NotCarried) (continues more DocumentStart a (Root false) (Root false) Keep (inl refl))))

  last : (a : At) → Grows more (last_at a) (last_at (grown more a))
  unfolding last_at
  last a = chosen more (is_end a) _ _ _ _ (continues more StreamEnd a Ended Ended Keep (inl refl)) (faults more _ _)

  step_grows : (m : Mode) (f : Option Frame) (d : ℕ) (a : At) → Grows more (step_at m f d a) (step_at m f d (grown more a))
  unfolding step_at
  step_grows Begin f d a = continues more StreamStart a Document Document Keep (inl refl)
  step_grows Document f d a = document a
  step_grows (Root true) f d a = explicit d a
  step_grows (Root false) f d a = node d None a
  step_grows (Item col) f d a = item d col a
  step_grows Key f d a = key a
  step_grows (Value col) f d a = value d col a
  step_grows Open f d a = opening d f a
  step_grows (AfterKey q g) f d a = after_key d q g g a
  step_grows (Done g) f d a = behind_node d g g f a
  step_grows Trailing f d a = faults more Form Form
  step_grows Last f d a = last a
  step_grows Ended f d a = continues more StreamEnd a Ended Ended Keep (inl refl)

  done_grows : (g h : Bool) (f : Option Frame) (d : ℕ) (a : At) → Grows more (step_at (Done g) f d a) (step_at (Done h) f d (grown more a))
  unfolding step_at
  done_grows g h f d a = behind_node d g h f a

  after_key_grows : (q g h : Bool) (f : Option Frame) (d : ℕ) (a : At) → Grows more (step_at (AfterKey q g) f d a) (step_at (AfterKey q h) f d (grown more a))
  unfolding step_at
  after_key_grows q g h f d a = after_key d q g h a

  grows : (m n : Mode) (f : Option Frame) (d : ℕ) (a : At) → SameMode m n → Grows more (step_at m f d a) (step_at n f d (grown more a))
  grows m n f d a (inl same) = subst (λ (x : Mode). Grows more (step_at m f d a) (step_at x f d (grown more a))) same (step_grows m f d a)
  grows m n f d a (inr (inl (g, (h, (is, also))))) =
      subst (λ (x : Mode). Grows more (step_at x f d a) (step_at n f d (grown more a))) (sym is)
      (subst (λ (x : Mode). Grows more (step_at (Done g) f d a) (step_at x f d (grown more a))) (sym also) (done_grows g h f d a))
  grows m n f d a (inr (inr (q, (g, (h, (is, also)))))) =
      subst (λ (x : Mode). Grows more (step_at x f d a) (step_at n f d (grown more a))) (sym is)
      (subst (λ (x : Mode). Grows more (step_at (AfterKey q g) f d a) (step_at x f d (grown more a))) (sym also) (after_key_grows q g h f d a))

-- At the text's end a step gives an end, or wants more text.
done_over : (d : ℕ) (g : Bool) (f : Option Frame) → Over (done_at d g f the_end)
unfolding done_at root_done list_done map_done seq_done pairs_done flow_next next_at
done_over d g None = (refl, refl)
done_over d g (Some (InList col)) = from (eqb 0 col) (le-leb 0 col (omega arith))
  where
    from : (b : Bool) → leb 0 col ≡ true → Over (cond (not (b && false) && leb 0 col) (Ok (transition SequenceEnd the_end (Done false) Pop)) (cond (b && false) (item_at d col (past 1 the_end)) (Err (line_fault g the_end))))
    from true le = rw le (refl, refl)
    from false le = rw le (refl, refl)
done_over d g (Some (InMap col)) = from (ltb 0 col)
  where
    from : (b : Bool) → Over (cond (b || true) (Ok (transition MappingEnd the_end (Done false) Pop)) (cond (eqb 0 col) (key_step the_end) (Err (line_fault g the_end))))
    from true = (refl, refl)
    from false = (refl, refl)
done_over d g (Some (InSeq fl)) = tt
done_over d g (Some (InPairs fl)) = tt

quiet_over : (m : Mode) (f : Option Frame) (d : ℕ) → quiet m ≡ true → Over (step_at m f d the_end)
unfolding step_at document_at last_at
quiet_over Begin f d q = (refl, refl)
quiet_over Document f d q = (refl, refl)
quiet_over (Root b) f d q = absurd cc
quiet_over (Item col) f d q = absurd cc
quiet_over Key f d q = absurd cc
quiet_over (Value col) f d q = absurd cc
quiet_over Open f d q = absurd cc
quiet_over (AfterKey q' g) f d q = absurd cc
quiet_over (Done g) f d q = done_over d g f
quiet_over Trailing f d q = absurd cc
quiet_over Last f d q = (refl, refl)
quiet_over Ended f d q = (refl, refl)

-- a state in which the text has ended
record IsOver (s : State) : Type 0 where
  at : s.at ≡ the_end
  mode : quiet s.mode ≡ true

over_step : (s : State) → IsOver s → Over (step_of s)
over_step s o = subst (λ (a : At). Over (step_at s.mode (top_of s.frames) (length s.frames) a)) (sym o.at) (quiet_over s.mode (top_of s.frames) (length s.frames) o.mode)

failed : Fault → Result Transition Fault
failed f = Err f

-- a fault of a step
fault_of : (s : State) (f : Fault) → next s ≡ Err f → step_of s ≡ Err f
unfolding next failed
fault_of s f e = from s.frames (step_of s) e
  where
    from : (k : List Frame) (r : Result Transition Fault) → moved k r ≡ Err f → r ≡ Err f
    from k (Ok g) e = absurd cc
    from k (Err x) e = let same : x ≡ f = cc in ap failed same

final_over : {P : Type 0} (f : Fault) → IsFinal f → Over (Err f) → P
final_over Form final over = absurd over
final_over NotCarried final over = absurd over
final_over TooDeep final over = absurd over
final_over Cut final over = absurd final

over_stops : {P : Type 0} (s : State) (es : List Event) (y : State) (f : Fault) → IsOver s → Runs s es y → next y ≡ Err f → IsFinal f → P
over_stops s [] y f o runs stop final =
    final_over f final (subst (λ (r : Result Transition Fault). Over r) (fault_of s f (ap next runs ∙ stop)) (over_step s o))
over_stops s (e ∷ es) y f o runs stop final =
    let h = from_of s e es y runs in
    let over = subst (λ (r : Result Transition Fault). Over r) h.1 (over_step s o) in
    over_stops (behind s.frames h.0) es y f (record { at = over.0; mode = over.1 }) h.3 stop final

-- the same state with more lines behind it
record Same (more : List (List ℕ)) (s t : State) : Type 0 where
  mode : SameMode s.mode t.mode
  frames : t.frames ≡ s.frames
  at : t.at ≡ grown more s.at

same_step : (more : List (List ℕ)) (s t : State) → Same more s t → Grows more (step_of s) (step_of t)
same_step more s t e =
    subst (λ (k : List Frame). Grows more (step_of s) (step_at t.mode (top_of k) (length k) t.at)) (sym e.frames)
    (subst (λ (a : At). Grows more (step_of s) (step_at t.mode (top_of s.frames) (length s.frames) a)) (sym e.at)
    (grows more s.mode t.mode (top_of s.frames) (length s.frames) s.at e.mode))

-- a refusal
record Stops (t : State) : Type 0 where
  events : List Event
  state : State
  fault : Fault
  runs : Runs t events state
  stop : next state ≡ Err fault

stopped : (t : State) (f : Fault) → step_of t ≡ Err f → Stops t
unfolding next
stopped t f e = record { events = []; state = t; fault = f; runs = refl; stop = ap (λ (r : Result Transition Fault). moved t.frames r) e }

-- one step more
onward : (t : State) (h : Transition) → step_of t ≡ Ok h → Stops (behind t.frames h) → Stops t
unfolding next
onward t h e s = record {
  events = h.event ∷ s.events;
  state = s.state;
  fault = s.fault;
  runs = (behind t.frames h, ap (λ (r : Result Transition Fault). moved t.frames r) e, s.runs);
  stop = s.stop;
}

halts : (more : List (List ℕ)) (t : State) (f : Fault) (r q : Result Transition Fault) → step_of t ≡ q → Grows more r q → r ≡ Err f → IsFinal f → Stops t
halts more t f (Ok g) q also grow is final = absurd cc
halts more t f (Err x) (Ok h) also grow is final =
    let same : x ≡ f = cc in
    elim (grow.either) [ inl none ↦ absurd none | inr over ↦ final_over f final (subst (λ (y : Fault). Over (Err y)) same over) ]
halts more t f (Err x) (Err e) also grow is final = stopped t e also

advance : (more : List (List ℕ)) (s t : State) (g : Transition) (q : Result Transition Fault) → step_of t ≡ q → Grows more (Ok g) q → Same more s t → (IsOver (behind s.frames g) → Stops t)
    → ((h : Transition) → Same more (behind s.frames g) (behind t.frames h) → Stops (behind t.frames h)) → Stops t
advance more s t g (Ok h) also grow same over on =
    elim (grow.either) [
      | inl alike ↦ onward t h also (on h (record {
        mode = alike.mode;
        frames = ap (λ (c : Change). changed c t.frames) alike.change ∙ ap (changed g.change) same.frames;
        at = alike.at;
      }))
      | inr ends ↦ over (record { at = ends.0; mode = ends.1 })
    ]
advance more s t g (Err x) also grow same over on =
    elim (grow.either) [ inl none ↦ absurd none | inr ends ↦ over (record { at = ends.0; mode = ends.1 }) ]

stops : (more : List (List ℕ)) (s t : State) (es : List Event) (y : State) (f : Fault) → Same more s t → Runs s es y → next y ≡ Err f → IsFinal f → Stops t
stops more s t [] y f same runs stop final = halts more t f (step_of s) (step_of t) refl (same_step more s t same) (fault_of s f (ap next runs ∙ stop)) final
stops more s t (e ∷ es) y f same runs stop final =
    let h = from_of s e es y runs in
    advance more s t h.0 (step_of t) refl (subst (λ (r : Result Transition Fault). Grows more r (step_of t)) h.1 (same_step more s t same)) same
    (λ over. over_stops (behind s.frames h.0) es y f over h.3 stop final)
    (λ g on. stops more (behind s.frames h.0) (behind t.frames g) es y f on h.3 stop final)

pub refused_for_good : (text longer : List ℕ) (more : List (List ℕ)) (f : Fault) (o : Option Tree) → Refuses text f → IsFinal f
    → lines_of (without_mark longer) ≡ lines_of (without_mark text) ++ more → Carried longer o → ⊥
refused_for_good text longer more f o (es, (y, (runs, stop))) final lines carried =
    let grow = next_grown more (lines_of (without_mark text)) in
    let s : Stops (start longer) =
    elim (grow.either) [
      | inl same ↦ stops more (start text) (start longer) es y f (record { mode = inl refl; frames = refl; at = ap next_at lines ∙ same }) runs stop final
      | inr end ↦ over_stops (start text) es y f (record { at = end; mode = refl }) runs stop final
    ] in
    refused_not_carried longer s.fault o (s.events, (s.state, (s.runs, s.stop))) carried
