-- Each state that is no refusal has an ending: what stands there instead, and is emitted to the stream's end.
use Rattle.std.proofs.Common.{◌≡◌, ℕ, zero, suc, ◌⊎◌, List, [], ◌∷◌, ◌++◌, length, drop, Bool, true, false, ltb, Option, Some, Ok, refl, sym, ap, ◌∙◌, subst, inl, inr, arith, add-zero, append_assoc, append-nil}
use Rattle.yaml_scan.specs.Lines.{ends}
use Rattle.yaml_small.specs.declared.event.Event.{Event}
use Rattle.yaml_small.specs.declared.event.Event.TheVariants.{StreamStart, StreamEnd, DocumentEnd, SequenceEnd, MappingEnd}
use Rattle.yaml_small.specs.declared.state.Mode.{Mode}
use Rattle.yaml_small.specs.declared.state.Mode.TheVariants.{Begin, Document, Done, Trailing, Last, Ended}
use Rattle.yaml_small.specs.declared.state.Frame.{Frame}
use Rattle.yaml_small.specs.declared.state.Frame.TheVariants.{InList, InMap, InSeq, InPairs}
use Rattle.yaml_small.specs.Places.{At, past, over, next_at, flow_next, begins, list_ends, map_ends}
use Rattle.yaml_small.specs.Step.{Transition, transition, missing_transition, block_end, closed, seq_entry, pairs_entry, seq_done, pairs_done, list_done, map_done, root_done, done_at, document_at, last_at, step_at}
use Rattle.yaml_small.specs.Stream.{State, top_of, behind, Runs}
use Rattle.yaml_small.specs.GrowthLaws.{the_end}
use Rattle.yaml_small.specs.MarkLaws.{and_parts, or_true}
use Rattle.yaml_small.specs.RunLaws.{runs_of, top_pushed, length_pushed, popped, state, done, landed, settled_lands}
use Rattle.yaml_completion.proofs.Along.{not_true, if_true, if_false, is_solid, not_ended, solid_white, gone_over}
use Rattle.yaml_completion.proofs.Contents.{place, next_end}
use Rattle.yaml_completion.proofs.Frames.{is_flow, sits, nested, in_flow, flow_push, nested_pop, agreed, innermost}
use Rattle.yaml_completion.proofs.BlockMoves.{list_ends_end}

-- a run to the stream's end
pub record Ending (s : State) : Type 0 where
  pub events : List Event
  pub last : State
  pub runs : Runs s events last
  pub ended : last.mode ≡ Ended

-- by one step
pub before : (m : Mode) (k : List Frame) (a : At) (g : Transition) → step_at m (top_of k) (length k) a ≡ Ok g → Ending (behind k g) → Ending (state m k a)
before m k a g step e = record {
  events = g.event ∷ e.events;
  last = e.last;
  runs = runs_of (state m k a) (g.event ∷ e.events) e.last (g, step, refl, e.runs);
  ended = e.ended;
}

pub over_here : (k : List Frame) (a : At) → Ending (state Ended k a)
over_here k a = record { events = []; last = state Ended k a; runs = refl; ended = refl }

-- behind the document, at the text's end
pub at_last : (k : List Frame) → Ending (state Last k the_end)
unfolding step_at last_at
at_last k = before Last k the_end (transition StreamEnd the_end Ended (missing_transition the_end).change) refl (over_here k the_end)

pub at_document : (k : List Frame) → Ending (state Document k the_end)
unfolding step_at document_at
at_document k = before Document k the_end (transition StreamEnd the_end Ended (missing_transition the_end).change) refl (over_here k the_end)

pub at_begin : (k : List Frame) → Ending (state Begin k the_end)
unfolding step_at
at_begin k = before Begin k the_end (transition StreamStart the_end Document (missing_transition the_end).change) refl (at_document k)

at_root : (g : Bool) → Ending (state (Done g) [] the_end)
unfolding step_at done_at root_done
at_root g = before (Done g) [] the_end (transition DocumentEnd the_end Last (missing_transition the_end).change) refl (at_last [])

-- the closing brackets, the innermost first
abbrev pub closer : Frame → List ℕ
closer (InList col) = []
closer (InMap col) = []
closer (InSeq inner) = 93 ∷ []
closer (InPairs inner) = 125 ∷ []

abbrev pub closers : List Frame → List ℕ
closers [] = []
closers (f ∷ k) = closers k ++ closer f

pub closers_push : (k : List Frame) (f : Frame) → closers (k ++ (f ∷ [])) ≡ closer f ++ closers k
closers_push [] f = sym (append-nil (closer f))
closers_push (x ∷ k) f = ap (λ (l : List ℕ). l ++ closer x) (closers_push k f) ∙ append_assoc (closer f) (closers k) (closer x)

block_sits : (o : Bool) (f : Frame) → sits o f ≡ true → is_flow f ≡ false → o ≡ false
block_sits o (InList col) sit block = not_true o sit
block_sits o (InMap col) sit block = not_true o sit
block_sits o (InSeq inner) sit block = absurd cc
block_sits o (InPairs inner) sit block = absurd cc

-- outside flows there is none
no_closers : (o : Bool) (k : List Frame) → nested o k ≡ true → in_flow o k ≡ false → o ≡ false × closers k ≡ []
no_closers o [] nest out = (out, refl)
no_closers o (f ∷ k) nest out =
    let p = and_parts (sits o f) (nested (is_flow f) k) nest in
    let r = no_closers (is_flow f) k p.1 out in
    (block_sits o f p.0 r.0, rw r.1 (block_none f r.0))
  where
    block_none : (f : Frame) → is_flow f ≡ false → closer f ≡ []
    block_none (InList col) e = refl
    block_none (InMap col) e = refl
    block_none (InSeq inner) e = absurd cc
    block_none (InPairs inner) e = absurd cc

-- a bracket stands where it stands
pub solid_next : (a : At) → is_solid a.line ≡ true → flow_next a ≡ a
unfolding flow_next
solid_next a solid =
    ap over (if_false (ends a.line) (next_at a.later) a (not_ended [] a.line refl solid))
    ∙ gone_over a.col [] a.line a.later refl (solid_white a.line solid) ∙ ap (λ (n : ℕ). place n a.line a.later) (add-zero a.col)

-- what stands where closing brackets are read, or the text's end
pub record Closing (k : List Frame) (a : At) : Type 0 where
  pub either : ((in_flow false k ≡ false) × (a ≡ the_end)) ⊎ ((in_flow false k ≡ true) × ((flow_next a).line ≡ closers k) × ((flow_next a).later ≡ []))

abbrev pub Closes : List Frame → Type 0
Closes j = (b : At) (g : Bool) → Closing j b → Ending (state (Done g) j b)

pub flow_closer : (k : List Frame) → in_flow false k ≡ true → is_solid (closers k) ≡ true
flow_closer k e =
    elim ((innermost k).either) [
      | inl none ↦ absurd (off (sym (ap (in_flow false) none) ∙ e))
      | inr (j, (f, is)) ↦
          ap (λ (x : List Frame). is_solid (closers x)) is ∙ ap is_solid (closers_push j f) ∙ solid f (closers j) (sym (flow_push false j f) ∙ sym (ap (in_flow false) is) ∙ e)
    ]
  where
    off : false ≡ true → ⊥
    off e = absurd cc

    solid : (f : Frame) (l : List ℕ) → is_flow f ≡ true → is_solid (closer f ++ l) ≡ true
    solid (InList col) l e = absurd cc
    solid (InMap col) l e = absurd cc
    solid (InSeq inner) l e = refl
    solid (InPairs inner) l e = refl

-- behind a closing bracket
landed_ending : (inner : Bool) (j : List Frame) (b : At) → in_flow false j ≡ inner → nested false j ≡ true → b.line ≡ closers j → b.later ≡ [] → Closes j → Ending (landed inner false b j)
landed_ending true j b inside nest line later more =
    let stays = solid_next b (ap is_solid line ∙ flow_closer j inside) in
    more b false (record { either = inr (inside, ap (λ (x : At). x.line) stays ∙ line, ap (λ (x : At). x.later) stays ∙ later) })
landed_ending false j b inside nest line later more =
    let none = (no_closers false j nest inside).1 in
    subst Ending
    (sym (if_true (ends b.line) (done false (next_at b.later) j) (state Trailing j (over b)) (ap ends (line ∙ none)) ∙ ap (λ (x : At). done false x j) (ap next_at later ∙ next_end)))
    (more the_end false (record { either = inl (inside, refl) }))

pub closed_ending : (e : Event) (inner : Bool) (j : List Frame) (f : Frame) (x : ℕ) (c : At) → in_flow false j ≡ inner → nested false j ≡ true → c.line ≡ x ∷ closers j → c.later ≡ [] → Closes j → Ending (behind (j ++ (f ∷ [])) (closed e inner c))
closed_ending e inner j f x c inside nest line later more =
    subst Ending (sym (settled_lands inner false e (block_end e c).change (past 1 c) (j ++ (f ∷ [])) ∙ ap (landed inner false (past 1 c)) (popped j f)))
    (landed_ending inner j (past 1 c) inside nest (ap (drop 1) line) later more)

-- a step that closes the innermost flow
pub record ClosesAt (m : Mode) (j : List Frame) (f : Frame) (a c : At) : Type 0 where
  pub seq : (inner : Bool) → f ≡ InSeq inner → step_at m (Some f) (length (j ++ (f ∷ []))) a ≡ Ok (closed SequenceEnd inner c)
  pub pairs : (inner : Bool) → f ≡ InPairs inner → step_at m (Some f) (length (j ++ (f ∷ []))) a ≡ Ok (closed MappingEnd inner c)

pub closes_at : (m : Mode) (j : List Frame) (f : Frame) (a c : At) → nested false (j ++ (f ∷ [])) ≡ true → is_flow f ≡ true → c.line ≡ closers (j ++ (f ∷ [])) → c.later ≡ [] → ClosesAt m j f a c → Closes j → Ending (state m (j ++ (f ∷ [])) a)
closes_at m j f a c nest flow line later step more = from f flow (nested_pop false j f nest) (line ∙ closers_push j f) step
  where
    from : (f : Frame) → is_flow f ≡ true → (nested false j ≡ true) × (sits (in_flow false j) f ≡ true) → c.line ≡ closer f ++ closers j → ClosesAt m j f a c → Ending (state m (j ++ (f ∷ [])) a)
    from (InList col) flow p line step = absurd cc
    from (InMap col) flow p line step = absurd cc
    from (InSeq inner) flow p line step =
        before m (j ++ (InSeq inner ∷ [])) a (closed SequenceEnd inner c) (ap (λ (o : Option Frame). step_at m o (length (j ++ (InSeq inner ∷ []))) a) (top_pushed j (InSeq inner)) ∙ step.seq inner refl)
        (closed_ending SequenceEnd inner j (InSeq inner) 93 c (agreed inner (in_flow false j) p.1) p.0 line later more)
    from (InPairs inner) flow p line step =
        before m (j ++ (InPairs inner ∷ [])) a (closed MappingEnd inner c) (ap (λ (o : Option Frame). step_at m o (length (j ++ (InPairs inner ∷ []))) a) (top_pushed j (InPairs inner)) ∙ step.pairs inner refl)
        (closed_ending MappingEnd inner j (InPairs inner) 125 c (agreed inner (in_flow false j) p.1) p.0 line later more)

-- what closing brackets are read as
seq_bracket : (inner g : Bool) (d : ℕ) (c : At) (r : List ℕ) → c.line ≡ 93 ∷ r → seq_done inner d g c ≡ Ok (closed SequenceEnd inner c)
unfolding seq_done
seq_bracket inner g d c r e = if_false (begins 44 c.line) _ _ (ap (begins 44) e) ∙ if_true (begins 93 c.line) _ _ (ap (begins 93) e)

pairs_brace : (inner g : Bool) (c : At) (r : List ℕ) → c.line ≡ 125 ∷ r → pairs_done inner g c ≡ Ok (closed MappingEnd inner c)
unfolding pairs_done
pairs_brace inner g c r e = if_false (begins 44 c.line) _ _ (ap (begins 44) e) ∙ if_true (begins 125 c.line) _ _ (ap (begins 125) e)

pub seq_last : (inner : Bool) (d : ℕ) (c : At) (r : List ℕ) → c.line ≡ 93 ∷ r → seq_entry inner d c ≡ Ok (closed SequenceEnd inner c)
unfolding seq_entry
seq_last inner d c r e = if_true (begins 93 c.line) _ _ (ap (begins 93) e)

pub pairs_last : (inner : Bool) (c : At) (r : List ℕ) → c.line ≡ 125 ∷ r → pairs_entry inner c ≡ Ok (closed MappingEnd inner c)
unfolding pairs_entry
pairs_last inner c r e = if_true (begins 125 c.line) _ _ (ap (begins 125) e)

-- behind a node, with the closing brackets
pub done_closes : (g : Bool) (j : List Frame) (f : Frame) (a : At) → (flow_next a).line ≡ closers (j ++ (f ∷ [])) → ClosesAt (Done g) j f a (flow_next a)
unfolding step_at done_at
done_closes g j f a line = record {
  seq = λ inner is.
      ap (λ (x : Frame). step_at (Done g) (Some x) (length (j ++ (f ∷ []))) a) is
      ∙ seq_bracket inner g (length (j ++ (f ∷ []))) (flow_next a) (closers j) (line ∙ closers_push j f ∙ ap (λ (x : Frame). closer x ++ closers j) is);
  pairs = λ inner is.
      ap (λ (x : Frame). step_at (Done g) (Some x) (length (j ++ (f ∷ []))) a) is
      ∙ pairs_brace inner g (flow_next a) (closers j) (line ∙ closers_push j f ∙ ap (λ (x : Frame). closer x ++ closers j) is);
}

-- a block list or map ends at the text's end
block_step : (g : Bool) (d : ℕ) (f : Frame) → is_flow f ≡ false → (e : Event) × (step_at (Done g) (Some f) d the_end ≡ Ok (block_end e the_end))
unfolding step_at done_at list_done map_done
block_step g d (InList col) block = (SequenceEnd, if_true (list_ends col the_end) _ _ (list_ends_end col))
block_step g d (InMap col) block = (MappingEnd, if_true (map_ends col the_end) _ _ (or_true (ltb 0 col)))
block_step g d (InSeq inner) block = absurd cc
block_step g d (InPairs inner) block = absurd cc

pub done_ending : (n : ℕ) (k : List Frame) → length k ≡ n → nested false k ≡ true → Closes k
done_ending zero [] size nest b g closing =
    elim (closing.either) [
      | inl (out, end) ↦ subst (λ (x : At). Ending (state (Done g) [] x)) (sym end) (at_root g)
      | inr (inside, line, later) ↦ absurd cc
    ]
done_ending zero (x ∷ k) size nest b g closing = absurd (omega arith)
done_ending (suc n) k size nest b g closing =
    elim ((innermost k).either) [
      | inl none ↦ absurd (short n (sym size ∙ ap length none))
      | inr (j, (f, is)) ↦
          let nest : nested false (j ++ (f ∷ [])) ≡ true = sym (ap (nested false) is) ∙ nest in
          let p = nested_pop false j f nest in
          let less : length j ≡ n = omega (arith, length_pushed j f, ap length is) in
          let more : Closes j = done_ending n j less p.0 in
          let top = λ (flow : Bool) (e : in_flow false k ≡ flow). sym (flow_push false j f) ∙ sym (ap (in_flow false) is) ∙ e in
          subst (λ (x : List Frame). Ending (state (Done g) x b)) (sym is)
          (elim (closing.either) [
            | inl (out, end) ↦
                let block = top false out in
                let step = block_step g (length (j ++ (f ∷ []))) f block in
                subst (λ (x : At). Ending (state (Done g) (j ++ (f ∷ [])) x)) (sym end)
                (before (Done g) (j ++ (f ∷ [])) the_end (block_end step.0 the_end)
                (ap (λ (o : Option Frame). step_at (Done g) o (length (j ++ (f ∷ []))) the_end) (top_pushed j f) ∙ step.1)
                (subst (λ (x : List Frame). Ending (state (Done false) x the_end)) (sym (popped j f)) (more the_end false (record { either = inl (block_sits (in_flow false j) f p.1 block, refl) }))))
            | inr (inside, line, later) ↦
                closes_at (Done g) j f b (flow_next b) nest (top true inside) (line ∙ ap closers is) later (done_closes g j f b (line ∙ ap closers is)) more
          ])
    ]
  where
    short : (n : ℕ) → suc n ≡ 0 → ⊥
    short n e = omega arith
