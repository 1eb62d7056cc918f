-- A run to a place is the same run where something else stands at that place.
use Rattle.std.proofs.Common.{◌≡◌, ℕ, List, [], ◌∷◌, ◌++◌, length, Bool, true, false, cond, eqb, Option, Some, None, Result, Ok, Err, refl, sym, ap, ◌∙◌, subst, inl, inr}
use Rattle.yaml_small.specs.declared.event.Event.{Event}
use Rattle.yaml_small.specs.declared.event.Event.TheVariants.{StreamStart, StreamEnd}
use Rattle.yaml_small.specs.declared.state.Mode.{Mode}
use Rattle.yaml_small.specs.declared.state.Mode.TheVariants.{Begin, Document, Root, Item, Key, Value, Open, AfterKey, Done, Trailing, Last, Ended}
use Rattle.yaml_small.specs.declared.state.Frame.{Frame}
use Rattle.yaml_small.specs.declared.state.Frame.TheVariants.{InList, InMap, InSeq, InPairs}
use Rattle.yaml_small.specs.Places.{At, flow_next, begins, is_end, at_dots, at_dash, list_ends, map_ends}
use Rattle.yaml_small.specs.Scalars.{Fault, Form}
use Rattle.yaml_small.specs.Grammar.{closes_value, is_flow_colon}
use Rattle.yaml_small.specs.Step.{Transition, transition, missing_transition, open_at, after_key_at, list_done, map_done, seq_done, pairs_done, root_done, done_at, step_at}
use Rattle.yaml_small.specs.Stream.{State, top_of, changed, behind, Runs}
use Rattle.yaml_small.specs.GrowthLaws.{the_end, SameMode}
use Rattle.yaml_small.specs.RunLaws.{runs_of, from_of, step_of, top_pushed, state}
use Rattle.yaml_completion.proofs.Along.{not_true, Along, stays, further}
use Rattle.yaml_completion.proofs.Contents.{Ready}
use Rattle.yaml_completion.proofs.Scans.{begins_low}
use Rattle.yaml_completion.proofs.Blocks.{Alike, Next}
use Rattle.yaml_completion.proofs.Frames.{is_flow, sits, nested, in_flow, flow_push, nested_pop, agreed, innermost, pairs_flow}
use Rattle.yaml_completion.proofs.Moves.{Starts, Flowing, Fits, Consistent, is_tied, tied, other, last, Lasts, Moves, moves_err, moves_map, moves_ok}
use Rattle.yaml_completion.proofs.Leaves.{same_mode}
use Rattle.yaml_completion.proofs.BlockMoves.{moves_node, moves_item, moves_value, moves_explicit, moves_keyed, moves_list_done, moves_map_done}
use Rattle.yaml_completion.proofs.DocumentMoves.{moves_root_done, moves_document, moves_last}
use Rattle.yaml_completion.proofs.FlowMoves.{moves_seq_next, moves_pairs_next, moves_seq_done, moves_pairs_done, moves_after_key}

-- behind an innermost list or map
pub fits_out : (flow g : Bool) (a c : At) → flow ≡ false → Next a c → Fits flow (Done g) a c
fits_out false g a c e next = next
fits_out true g a c e next = absurd cc

pub fits_in : (flow g : Bool) (a c : At) → flow ≡ true → Flowing true a c → Fits flow (Done g) a c
fits_in true g a c e flowing = flowing
fits_in false g a c e flowing = absurd cc

-- the step looks at the innermost
at_top : (m : Mode) (j : List Frame) (f : Frame) (P : At → Type 0) (a : At) → Moves (j ++ (f ∷ [])) P (step_at m (Some f) (length (j ++ (f ∷ [])))) a → Moves (j ++ (f ∷ [])) P (step_at m (top_of (j ++ (f ∷ []))) (length (j ++ (f ∷ [])))) a
at_top m j f P a h = subst (λ (o : Option Frame). Moves (j ++ (f ∷ [])) P (step_at m o (length (j ++ (f ∷ [])))) a) (sym (top_pushed j f)) h

done_moves : (j : List Frame) (f : Frame) (g : Bool) (a : At) → nested false j ≡ true → sits (in_flow false j) f ≡ true → Moves (j ++ (f ∷ [])) (Fits (in_flow false (j ++ (f ∷ []))) (Done g) a) (step_at (Done g) (Some f) (length (j ++ (f ∷ [])))) a
unfolding step_at done_at
done_moves j (InList col) g a nest sit =
    moves_map (j ++ (InList col ∷ [])) (Next a) (Fits (in_flow false (j ++ (InList col ∷ []))) (Done g) a) (list_done (length (j ++ (InList col ∷ []))) col g) a (λ c next. fits_out (in_flow false (j ++ (InList col ∷ []))) g a c (flow_push false j (InList col)) next)
    (moves_list_done j (length (j ++ (InList col ∷ []))) col g a (not_true (in_flow false j) sit) nest)
done_moves j (InMap col) g a nest sit =
    moves_map (j ++ (InMap col ∷ [])) (Next a) (Fits (in_flow false (j ++ (InMap col ∷ []))) (Done g) a) (map_done col g) a (λ c next. fits_out (in_flow false (j ++ (InMap col ∷ []))) g a c (flow_push false j (InMap col)) next)
    (moves_map_done j col g a (not_true (in_flow false j) sit) nest)
done_moves j (InSeq inner) g a nest sit =
    moves_map (j ++ (InSeq inner ∷ [])) (Flowing true a) (Fits (in_flow false (j ++ (InSeq inner ∷ []))) (Done g) a) (λ c. seq_done inner (length (j ++ (InSeq inner ∷ []))) g (flow_next c)) a
    (λ c flowing. fits_in (in_flow false (j ++ (InSeq inner ∷ []))) g a c (flow_push false j (InSeq inner)) flowing)
    (moves_seq_done j (length (j ++ (InSeq inner ∷ []))) inner g a (agreed inner (in_flow false j) sit) nest)
done_moves j (InPairs inner) g a nest sit =
    moves_map (j ++ (InPairs inner ∷ [])) (Flowing true a) (Fits (in_flow false (j ++ (InPairs inner ∷ []))) (Done g) a) (λ c. pairs_done inner g (flow_next c)) a
    (λ c flowing. fits_in (in_flow false (j ++ (InPairs inner ∷ []))) g a c (flow_push false j (InPairs inner)) flowing)
    (moves_pairs_done j inner g a (agreed inner (in_flow false j) sit) nest)

open_moves : (j : List Frame) (f : Frame) (a : At) → nested false j ≡ true → sits (in_flow false j) f ≡ true → is_flow f ≡ true → Moves (j ++ (f ∷ [])) (λ c. c.col ≡ a.col) (step_at Open (Some f) (length (j ++ (f ∷ [])))) a
unfolding step_at open_at
open_moves j (InList col) a nest sit flow = absurd cc
open_moves j (InMap col) a nest sit flow = absurd cc
open_moves j (InSeq inner) a nest sit flow = moves_seq_next j (length (j ++ (InSeq inner ∷ []))) inner a (agreed inner (in_flow false j) sit) nest
open_moves j (InPairs inner) a nest sit flow = moves_pairs_next j inner a (agreed inner (in_flow false j) sit) nest

start_moves : (k : List Frame) (depth : ℕ) (f : Option Frame) (a : At) → nested false k ≡ true → in_flow false k ≡ false → Moves k (Ready a) (step_at Begin f depth) a
unfolding step_at
start_moves k depth f a nest flow = moves_ok k (Ready a) (λ c. transition StreamStart c Document (missing_transition c).change) a
    (λ d fits. record { at = d; like = fits; along = stays a d; mode = Document; same = same_mode Document; is = refl }) (λ rest tie. absurd cc) (record { nest = nest; mode_matches = flow })

end_moves : (k : List Frame) (depth : ℕ) (f : Option Frame) (a : At) → nested false k ≡ true → Moves k (λ c. c ≡ the_end) (step_at Ended f depth) a
unfolding step_at
end_moves k depth f a nest = moves_ok k (λ c. c ≡ the_end) (λ c. transition StreamEnd c Ended (missing_transition c).change) a
    (λ d fits. record { at = d; like = fits; along = stays a d; mode = Ended; same = same_mode Ended; is = refl }) (λ rest tie. absurd cc) (record { nest = nest; mode_matches = tt })

root_moves : (k : List Frame) (depth : ℕ) (f : Option Frame) (a : At) → nested false k ≡ true → in_flow false k ≡ false → Moves k (Starts a) (step_at (Root false) f depth) a
unfolding step_at
root_moves k depth f a nest flow =
    moves_map k (Alike a) (Starts a) _ a (λ c alike. record { instead = alike.instead; dashes = λ e. alike.dashes ∙ e; percent = λ e. alike.percent ∙ e }) (moves_node k depth None a flow nest)

-- each step
step_moves : (m : Mode) (k : List Frame) (a : At) → Consistent m k a → Moves k (Fits (in_flow false k) m a) (step_at m (top_of k) (length k)) a
unfolding step_at done_at
step_moves Begin k a consistent = start_moves k (length k) (top_of k) a consistent.nest consistent.mode_matches
step_moves Document k a consistent = moves_document k a consistent.mode_matches consistent.nest
step_moves (Root true) k a consistent = moves_explicit k (length k) a consistent.mode_matches.0 consistent.nest consistent.mode_matches.1
step_moves (Root false) k a consistent = root_moves k (length k) (top_of k) a consistent.nest consistent.mode_matches.0
step_moves (Item col) k a consistent = moves_item k (length k) col a consistent.mode_matches consistent.nest
step_moves Key k a consistent = moves_keyed k a consistent.mode_matches consistent.nest
step_moves (Value col) k a consistent = moves_value k (length k) col a consistent.mode_matches.0 consistent.nest consistent.mode_matches.1
step_moves Open k a consistent =
    elim ((innermost k).either) [
      | inl none ↦ absurd (off (sym (ap (in_flow false) none) ∙ consistent.mode_matches))
      | inr (j, (f, is)) ↦
          let p = nested_pop false j f (sym (ap (nested false) is) ∙ consistent.nest) in
          subst (λ (k : List Frame). Moves k (λ c. c.col ≡ a.col) (step_at Open (top_of k) (length k)) a) (sym is)
          (at_top Open j f (λ c. c.col ≡ a.col) a (open_moves j f a p.0 p.1 (sym (flow_push false j f) ∙ sym (ap (in_flow false) is) ∙ consistent.mode_matches)))
    ]
  where
    off : false ≡ true → ⊥
    off e = absurd cc
step_moves (AfterKey quoted continues) k a consistent = moves_after_key k (length k) quoted continues a (pairs_flow k consistent.mode_matches) consistent.nest
step_moves (Done g) k a consistent =
    elim ((innermost k).either) [
      | inl none ↦ subst (λ (k : List Frame). Moves k (Fits (in_flow false k) (Done g) a) (step_at (Done g) (top_of k) (length k)) a) (sym none) (moves_root_done g a)
      | inr (j, (f, is)) ↦
          let p = nested_pop false j f (sym (ap (nested false) is) ∙ consistent.nest) in
          subst (λ (k : List Frame). Moves k (Fits (in_flow false k) (Done g) a) (step_at (Done g) (top_of k) (length k)) a) (sym is)
          (at_top (Done g) j f (Fits (in_flow false (j ++ (f ∷ []))) (Done g) a) a (done_moves j f g a p.0 p.1))
    ]
step_moves Trailing k a consistent = moves_err k _ (λ c. Form) a
step_moves Last k a consistent = moves_last k a consistent.nest
step_moves Ended k a consistent = end_moves k (length k) (top_of k) a consistent.nest

going : Transition → Result Transition Fault
going g = Ok g

-- whether a plain scalar would go on matters for faults alone
last_fault : (b c : Bool) (x y : Result Transition Fault) (e f : Fault) (g : Transition) → cond b x (cond c y (Err e)) ≡ Ok g → cond b x (cond c y (Err f)) ≡ Ok g
unfolding going
last_fault true c x y e f g h = h
last_fault false true x y e f g h = h
last_fault false false x y e f g h = absurd (none g h)
  where
    none : (g : Transition) → Err e ≡ going g → ⊥
    none g h = absurd cc

done_flag : (f : Option Frame) (d : ℕ) (a : At) (g h : Bool) (x : Transition) → done_at d g f a ≡ Ok x → done_at d h f a ≡ Ok x
unfolding done_at root_done list_done map_done seq_done pairs_done
done_flag None d a g h x e = last_fault (is_end a) (at_dots a) _ _ _ _ x e
done_flag (Some (InList col)) d a g h x e = last_fault (list_ends col a) (at_dash col a) _ _ _ _ x e
done_flag (Some (InMap col)) d a g h x e = last_fault (map_ends col a) (eqb a.col col) _ _ _ _ x e
done_flag (Some (InSeq inner)) d a g h x e = last_fault (begins 44 (flow_next a).line) (begins 93 (flow_next a).line) _ _ _ _ x e
done_flag (Some (InPairs inner)) d a g h x e = last_fault (begins 44 (flow_next a).line) (begins 125 (flow_next a).line) _ _ _ _ x e

after_key_flag : (d : ℕ) (q : Bool) (a : At) (g h : Bool) (x : Transition) → after_key_at d q g a ≡ Ok x → after_key_at d q h a ≡ Ok x
unfolding after_key_at
after_key_flag d q a g h x e = last_fault (is_flow_colon q (flow_next a).line) (closes_value (flow_next a).line) _ _ _ _ x e

flagless : (m n : Mode) (f : Option Frame) (d : ℕ) (a : At) (x : Transition) → SameMode m n → step_at m f d a ≡ Ok x → step_at n f d a ≡ Ok x
unfolding step_at
flagless m n f d a x same e =
    elim same [
      | inl is ↦ ap (λ (m : Mode). step_at m f d a) (sym is) ∙ e
      | inr (inl (g, (h, (old, new)))) ↦ ap (λ (m : Mode). step_at m f d a) new ∙ done_flag f d a g h x (sym (ap (λ (m : Mode). step_at m f d a) old) ∙ e)
      | inr (inr (q, (g, (h, (old, new))))) ↦ ap (λ (m : Mode). step_at m f d a) new ∙ after_key_flag d q a g h x (sym (ap (λ (m : Mode). step_at m f d a) old) ∙ e)
    ]

abbrev pub FitsAt : State → At → Type 0
FitsAt s d = Fits (in_flow false s.frames) s.mode s.at d

-- a run to a place where this stands instead, and to a state of which P holds
pub record Returns (s : State) (es : List Event) (z : State) (P : At → State → Type 0) : Type 0 where
  pub at : At
  pub fits : FitsAt s at
  pub there : At
  pub along : Along s.at z.at at there
  pub runs : (n : Mode) → SameMode s.mode n → (q : State) × (P there q × Runs (state n s.frames at) es q)

stopped : (s z : State) (d : At) (P : At → State → Type 0) → s ≡ z → FitsAt z d → ((m : Mode) → SameMode z.mode m → P d (state m z.frames d)) → Returns s [] z P
stopped s z d P e fits holds =
    subst (λ (x : State). Returns s [] x P) e
    (record {
      at = d;
      fits = subst (λ (x : State). FitsAt x d) (sym e) fits;
      there = d;
      along = stays s.at d;
      runs = λ n same. (state n s.frames d, (subst (λ (x : State). (m : Mode) → SameMode x.mode m → P d (state m x.frames d)) (sym e) holds n same, refl));
    })

-- behind a step
led : (s : State) (e : Event) (es : List Event) (z : State) (P : At → State → Type 0) (g : Transition) → step_of s ≡ Ok g → e ≡ g.event → Consistent s.mode s.frames s.at → Returns (behind s.frames g) es z P → Returns s (e ∷ es) z P
unfolding going
led s e es z P g is event consistent r =
    let n = (step_moves s.mode s.frames s.at consistent).move g is (other r.at r.fits) in
    let a = n.arrives in
    let step : step_at s.mode (top_of s.frames) (length s.frames) n.at ≡ Ok (transition g.event r.at a.mode g.change) = n.is ∙ ap (λ (x : At). going (transition g.event x a.mode g.change)) a.comes.1 in
    record {
      at = n.at;
      fits = n.like;
      there = r.there;
      along = further s.at g.at n.at r.at z.at r.there (subst (λ (x : At). Along s.at g.at n.at x) a.comes.0 n.along) r.along;
      runs = λ m same.
          let q = r.runs a.mode a.comes.2 in (
            q.0,
            (
              q.1.0,
              runs_of (state m s.frames n.at) (e ∷ es) q.0
                  (transition g.event r.at a.mode g.change, flagless s.mode m (top_of s.frames) (length s.frames) n.at (transition g.event r.at a.mode g.change) same step, event, q.1.1),
            ),
          );
    }

pub consistent_run : (s : State) (es : List Event) (z : State) → Runs s es z → Consistent s.mode s.frames s.at → Consistent z.mode z.frames z.at
consistent_run s [] z runs consistent = subst (λ (x : State). Consistent x.mode x.frames x.at) runs consistent
consistent_run s (e ∷ es) z runs consistent =
    let h = from_of s e es z runs in
    consistent_run (behind s.frames h.0) es z h.3 ((step_moves s.mode s.frames s.at consistent).consistent h.0 h.1)

-- to another place that fits
pub returns : (s : State) (es : List Event) (z : State) (d : At) (P : At → State → Type 0) → Runs s es z → Consistent s.mode s.frames s.at → FitsAt z d → ((m : Mode) → SameMode z.mode m → P d (state m z.frames d)) → Returns s es z P
returns s [] z d P runs consistent fits holds = stopped s z d P runs fits holds
returns s (e ∷ es) z d P runs consistent fits holds =
    let h = from_of s e es z runs in
    led s e es z P h.0 h.1 h.2 consistent (returns (behind s.frames h.0) es z d P h.3 ((step_moves s.mode s.frames s.at consistent).consistent h.0 h.1) fits holds)

-- to an end that the last step chooses
lasted : (s : State) (e : Event) (P : At → State → Type 0) (g : Transition) (rest : List ℕ) → step_of s ≡ Ok g → e ≡ g.event → Consistent s.mode s.frames s.at → tied s.frames g ≡ true
    → ((there to : At) (n : Mode) → Lasts (in_flow false (changed g.change s.frames)) g.mode rest there to n → P there (state n (changed g.change s.frames) to)) → Returns s (e ∷ []) (behind s.frames g) P
lasted s e P g rest is event consistent tie holds =
    let n = (step_moves s.mode s.frames s.at consistent).move g is (last rest tie) in
    let a = n.arrives in
    let end = transition g.event a.to a.mode g.change in
    record {
      at = n.at;
      fits = n.like;
      there = a.there;
      along = n.along;
      runs = λ m same. (
        behind s.frames end,
        (
          holds a.there a.to a.mode a.comes,
          runs_of (state m s.frames n.at) (e ∷ []) (behind s.frames end) (end, flagless s.mode m (top_of s.frames) (length s.frames) n.at end same n.is, event, refl),
        ),
      );
    }

pub lasts : (s : State) (e : Event) (es : List Event) (z : State) (P : At → State → Type 0) (rest : List ℕ) → Runs s (e ∷ es) z → Consistent s.mode s.frames s.at → is_tied z.mode (in_flow false z.frames) (begins_low z.at.line) ≡ true
    → ((there to : At) (n : Mode) → Lasts (in_flow false z.frames) z.mode rest there to n → P there (state n z.frames to)) → Returns s (e ∷ es) z P
lasts s e [] z P rest runs consistent tie holds =
    let h = from_of s e [] z runs in
    subst (λ (x : State). is_tied x.mode (in_flow false x.frames) (begins_low x.at.line) ≡ true → ((there to : At) (n : Mode) → Lasts (in_flow false x.frames) x.mode rest there to n → P there (state n x.frames to)) → Returns s (e ∷ []) x P) h.3
    (lasted s e P h.0 rest h.1 h.2 consistent) tie holds
lasts s e (f ∷ es) z P rest runs consistent tie holds =
    let h = from_of s e (f ∷ es) z runs in
    led s e (f ∷ es) z P h.0 h.1 h.2 consistent (lasts (behind s.frames h.0) f es z P rest h.3 ((step_moves s.mode s.frames s.at consistent).consistent h.0 h.1) tie holds)
