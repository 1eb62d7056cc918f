-- A carried document is emitted from its start to the stream's end.
use Rattle.std.proofs.Common.{◌≡◌, ℕ, zero, suc, ◌≤◌, List, [], ◌∷◌, drop, Bool, true, false, eqb, Option, Some, None, Ok, refl, ◌∙◌, inl, inr, arith}
use Rattle.yaml_scan.specs.Bytes.{spaces, whites}
use Rattle.yaml_scan.specs.Lines.{ends}
use Rattle.yaml_small.specs.declared.event.Event.{Event}
use Rattle.yaml_small.specs.declared.event.Event.TheVariants.{StreamStart, StreamEnd, DocumentStart, DocumentEnd}
use Rattle.yaml_small.specs.declared.state.Mode.TheVariants.{Begin, Document, Root, Done, Last, Ended}
use Rattle.yaml_small.specs.declared.state.Change.TheVariants.{Keep}
use Rattle.yaml_small.specs.Trees.{Tree, depth, emitted, stream_emitted, ends_again}
use Rattle.yaml_small.specs.Places.{At, past, over, next_at, is_end, begins, at_dashes, at_dots}
use Rattle.yaml_small.specs.Grammar.{Closed, Explicit, Document as ADocument, first_at, Carried}
use Rattle.yaml_small.specs.Step.{transition, below, node_at, inline_at, explicit_at, document_at, dots_end, root_done, last_at, done_at, step_at}
use Rattle.yaml_small.specs.Stream.{State, start, Runs, Emits}
use Rattle.yaml_small.specs.RunLaws.{From, state, done, runs_of}
use Rattle.yaml_small.specs.StepLaws.{by}
use Rattle.yaml_small.specs.EmittedFlowLaws.{bool_chosen, bool_passed, bools_chosen}
use Rattle.yaml_small.specs.EmittedBlockLaws.{node_emitted, below_emitted, inline_emitted}

at_last : (a : At) → is_end a ≡ true → step_at Last None 0 a ≡ Ok (transition StreamEnd a Ended Keep)
unfolding step_at last_at
at_last a e = bool_chosen (is_end a) _ _ e

at_ended : (a : At) → step_at Ended None 0 a ≡ Ok (transition StreamEnd a Ended Keep)
unfolding step_at
at_ended a = refl

-- behind the stream's end it comes again
ended_emitted : (n : ℕ) (a : At) → Runs (state Ended [] a) (ends_again n) (state Ended [] a)
ended_emitted zero a = refl
ended_emitted (suc n) a = runs_of (state Ended [] a) (StreamEnd ∷ ends_again n) (state Ended [] a) (transition StreamEnd a Ended Keep, at_ended a, refl, ended_emitted n a)

last_emitted : (n : ℕ) (a : At) → is_end a ≡ true → Runs (state Last [] a) (StreamEnd ∷ ends_again n) (state Ended [] a)
last_emitted n a e = runs_of (state Last [] a) (StreamEnd ∷ ends_again n) (state Ended [] a) (transition StreamEnd a Ended Keep, at_last a e, refl, ended_emitted n a)

root_over : (g : Bool) (a : At) → is_end a ≡ true → step_at (Done g) None 0 a ≡ Ok (transition DocumentEnd a Last Keep)
unfolding step_at done_at root_done
root_over g a e = bool_chosen (is_end a) _ _ e

root_dots : (g : Bool) (a : At) → is_end a ≡ false → at_dots a ≡ true → ends (drop 3 a.line) ≡ true → step_at (Done g) None 0 a ≡ Ok (transition DocumentEnd (next_at a.later) Last Keep)
unfolding step_at done_at root_done dots_end
root_dots g a e f h = bool_passed (is_end a) _ _ e ∙ bool_chosen (at_dots a) _ _ f ∙ bool_chosen (ends (drop 3 a.line)) _ _ h

-- where a document is closed the stream ends
abbrev pub closing : (b : At) → Closed b → At
closing b (inl e) = b
closing b (inr e) = next_at b.later

closed_emitted : (g : Bool) (n : ℕ) (b : At) (c : Closed b) → Runs (done g b []) (DocumentEnd ∷ StreamEnd ∷ ends_again n) (state Ended [] (closing b c))
closed_emitted g n b (inl e) =
    runs_of (done g b []) (DocumentEnd ∷ StreamEnd ∷ ends_again n) (state Ended [] b) (transition DocumentEnd b Last Keep, root_over g b e, refl, last_emitted n b e)
closed_emitted g n b (inr (e, dots, line, last)) =
    runs_of (done g b []) (DocumentEnd ∷ StreamEnd ∷ ends_again n) (state Ended [] (next_at b.later))
    (transition DocumentEnd (next_at b.later) Last Keep, root_dots g b e dots line, refl, last_emitted n (next_at b.later) last)

explicit_below : (a : At) → ends a.line ≡ true → explicit_at 0 a ≡ below 0 None (next_at a.later)
unfolding explicit_at
explicit_below a e = bool_chosen (ends a.line) _ _ e

explicit_inline : (a : At) → ends a.line ≡ false → eqb (spaces a.line) (whites a.line) ≡ true → explicit_at 0 a ≡ inline_at false 0 None (over a)
unfolding explicit_at
explicit_inline a e f = bools_chosen (ends a.line) (eqb (spaces a.line) (whites a.line)) _ _ _ e f

explicit_emitted : (t : Tree) (a b : At) (es : List Event) (z : State) → depth t ≤ 64 → Explicit t a b → ((g : Bool) → Runs (done g b []) es z) → From [] (explicit_at 0 a) (emitted t es) z
explicit_emitted t a b es z deep (inl (end, form)) rest =
    by [] _ _ (emitted t es) z (explicit_below a end) (below_emitted t (node_emitted t) [] None (next_at a.later) b es z (omega arith) form rest)
explicit_emitted t a b es z deep (inr (end, white, form)) rest =
    by [] _ _ (emitted t es) z (explicit_inline a end white) (inline_emitted t [] None (over a) b es z (omega arith) form rest)

at_root_explicit : (a : At) → step_at (Root true) None 0 a ≡ explicit_at 0 a
unfolding step_at
at_root_explicit a = refl

at_root : (a : At) → step_at (Root false) None 0 a ≡ node_at 0 None a
unfolding step_at
at_root a = refl

document_explicit : (a : At) → is_end a ≡ false → at_dashes a ≡ true → step_at Document None 0 a ≡ Ok (transition DocumentStart (past 3 a) (Root true) Keep)
unfolding step_at document_at
document_explicit a e f = bools_chosen (is_end a) (at_dashes a) _ _ _ e f

document_bare : (a : At) → is_end a ≡ false → at_dashes a ≡ false → begins 37 a.line ≡ false → step_at Document None 0 a ≡ Ok (transition DocumentStart a (Root false) Keep)
unfolding step_at document_at
document_bare a e f h = bool_passed (is_end a) _ _ e ∙ bool_passed (at_dashes a) _ _ f ∙ bool_passed (begins 37 a.line) _ _ h

document_none : (a : At) → is_end a ≡ true → step_at Document None 0 a ≡ Ok (transition StreamEnd a Ended Keep)
unfolding step_at document_at
document_none a e = bool_chosen (is_end a) _ _ e

document_emitted : (t : Tree) (a b : At) (es : List Event) (z : State) → is_end a ≡ false → depth t ≤ 64 → ADocument t a b → ((g : Bool) → Runs (done g b []) es z)
    → Runs (state Document [] a) (DocumentStart ∷ emitted t es) z
document_emitted t a b es z some deep (inl (dashes, form)) rest =
    runs_of (state Document [] a) (DocumentStart ∷ emitted t es) z (
      transition DocumentStart (past 3 a) (Root true) Keep,
      document_explicit a some dashes,
      refl,
      runs_of (state (Root true) [] (past 3 a)) (emitted t es) z (by [] _ _ (emitted t es) z (at_root_explicit (past 3 a)) (explicit_emitted t (past 3 a) b es z deep form rest)),
    )
document_emitted t a b es z some deep (inr (dashes, percent, form)) rest =
    runs_of (state Document [] a) (DocumentStart ∷ emitted t es) z (
      transition DocumentStart a (Root false) Keep,
      document_bare a some dashes percent,
      refl,
      runs_of (state (Root false) [] a) (emitted t es) z (by [] _ _ (emitted t es) z (at_root a) (node_emitted t [] None a b es z (omega arith) form rest)),
    )

at_begin : (a : At) → step_at Begin None 0 a ≡ Ok (transition StreamStart a Document Keep)
unfolding step_at
at_begin a = refl

begun : (text : List ℕ) (es : List Event) (z : State) → Runs (state Document [] (first_at text)) es z → Runs (start text) (StreamStart ∷ es) z
begun text es z rest = runs_of (start text) (StreamStart ∷ es) z (transition StreamStart (first_at text) Document Keep, at_begin (first_at text), refl, rest)

pub carried_emitted : (text : List ℕ) (o : Option Tree) (n : ℕ) → Carried text o → Emits text (stream_emitted o (ends_again n))
carried_emitted text None n e =
    let a = first_at text in (
      state Ended [] a,
      begun text (StreamEnd ∷ ends_again n) (state Ended [] a)
          (runs_of (state Document [] a) (StreamEnd ∷ ends_again n) (state Ended [] a) (transition StreamEnd a Ended Keep, document_none a e, refl, ended_emitted n a)),
      refl,
    )
carried_emitted text (Some t) n (b, some, document, closed, deep) =
    let z = state Ended [] (closing b closed) in (
      z,
      begun text (DocumentStart ∷ emitted t (DocumentEnd ∷ StreamEnd ∷ ends_again n)) z
          (document_emitted t (first_at text) b (DocumentEnd ∷ StreamEnd ∷ ends_again n) z some deep document (λ g. closed_emitted g n b closed)),
      refl,
    )
