-- A run from a text's start to the stream's end emits a carried document.
use Rattle.std.proofs.Common.{◌≡◌, ℕ, suc, ◌≤◌, List, [], ◌∷◌, drop, length, Bool, true, false, ◌||◌, cond, eqb, Option, Some, None, Ok, refl, sym, ap, ◌∙◌, subst, inl, inr, arith}
use Rattle.yaml_scan.specs.Bytes.{spaces, whites}
use Rattle.yaml_scan.specs.Lines.{ends, is_comment_line}
use Rattle.yaml_small.specs.declared.event.Event.{Event}
use Rattle.yaml_small.specs.declared.event.Event.TheVariants.{StreamStart, StreamEnd, DocumentStart, DocumentEnd}
use Rattle.yaml_small.specs.declared.state.Mode.{Mode}
use Rattle.yaml_small.specs.declared.state.Mode.TheVariants.{Begin, Document, Root, Done, Last, Ended}
use Rattle.yaml_small.specs.declared.state.Change.TheVariants.{Keep}
use Rattle.yaml_small.specs.Trees.{Tree, depth, emitted, stream_emitted, ends_again}
use Rattle.yaml_small.specs.Places.{At, past, over, next_at, is_end, begins, at_dashes, at_dots}
use Rattle.yaml_small.specs.Scalars.{Form, NotCarried}
use Rattle.yaml_small.specs.Grammar.{Closed, Below, Inline, Node, Explicit, Document as ADocument, first_at, Carried}
use Rattle.yaml_small.specs.Step.{transition, explicit_at, document_at, dots_end, root_done, last_at, line_fault, done_at, step_at}
use Rattle.yaml_small.specs.Stream.{State, Runs, Emits}
use Rattle.yaml_small.specs.RunLaws.{From, state, done, from_of}
use Rattle.yaml_small.specs.FoundLaws.{choose, refused, went, continues_below_from}
use Rattle.yaml_small.specs.FoundBlockLaws.{FoundBy, found_as, inline_found, below_found, node_law}

-- the next step of a state with no open list or map
step : (mode : Mode) (a : At) (es : List Event) (z : State) → (mode ≡ Ended → ⊥) → z.mode ≡ Ended → Runs (state mode [] a) es z → From [] (step_at mode None 0 a) es z
step mode a es z not_yet fin runs = continues_below_from (state mode [] a) es z not_yet fin runs

-- behind the stream's end nothing else comes
record Again (es : List Event) : Type 0 where
  count : ℕ
  is : es ≡ ends_again count

ended_found : (a : At) (es : List Event) (z : State) → Runs (state Ended [] a) es z → Again es
unfolding step_at
ended_found a [] z runs = record { count = 0; is = refl }
ended_found a (e ∷ es) z runs =
    let w = went [] (transition StreamEnd a Ended Keep) (e ∷ es) z (from_of (state Ended [] a) e es z runs) in
    let head : e ≡ StreamEnd = cc (w.emitted_is) in
    let tail : es ≡ w.tail = cc (w.emitted_is) in
    let again = ended_found a es z (subst (λ (x : List Event). Runs (state Ended [] a) x z) (sym tail) w.runs) in
    record { count = suc again.count; is = ap (λ (x : Event). x ∷ es) head ∙ ap (λ (x : List Event). StreamEnd ∷ x) again.is }

-- the stream's end
record AtEnd (es : List Event) : Type 0 where
  count : ℕ
  is : es ≡ StreamEnd ∷ ends_again count

end_found : (a : At) (es : List Event) (z : State) → From [] (Ok (transition StreamEnd a Ended Keep)) es z → AtEnd es
end_found a es z h =
    let w = went [] (transition StreamEnd a Ended Keep) es z h in
    let again = ended_found a w.tail z w.runs in
    record { count = again.count; is = w.emitted_is ∙ ap (λ (x : List Event). StreamEnd ∷ x) again.is }

record LastFound (a : At) (es : List Event) : Type 0 where
  end : is_end a ≡ true
  tail : AtEnd es

last_found : (a : At) (es : List Event) (z : State) → z.mode ≡ Ended → Runs (state Last [] a) es z → LastFound a es
unfolding step_at last_at
last_found a es z fin runs =
    choose [] (is_end a) _ _ es z (step Last a es z (λ e. absurd cc) fin runs)
    (λ end h. record { end = end; tail = end_found a es z h })
    (λ _ h. refused [] (cond (at_dots a || is_comment_line a.line) Form NotCarried) es z h)

-- the document's end
record ClosedFound (a : At) (es : List Event) : Type 0 where
  closed : Closed a
  count : ℕ
  is : es ≡ DocumentEnd ∷ StreamEnd ∷ ends_again count

closed_found : (g : Bool) (a : At) (es : List Event) (z : State) → z.mode ≡ Ended → Runs (done g a []) es z → ClosedFound a es
unfolding step_at done_at root_done dots_end
closed_found g a es z fin runs =
    choose [] (is_end a) _ _ es z (step (Done g) a es z (λ e. absurd cc) fin runs)
    (λ end h.
    let w = went [] (transition DocumentEnd a Last Keep) es z h in
    let l = last_found a w.tail z fin w.runs in
    record { closed = inl end; count = l.tail.count; is = w.emitted_is ∙ ap (λ (x : List Event). DocumentEnd ∷ x) l.tail.is })
    (λ some h. choose [] (at_dots a) _ _ es z h
    (λ dots h. choose [] (ends (drop 3 a.line)) _ _ es z h
    (λ line h.
    let w = went [] (transition DocumentEnd (next_at a.later) Last Keep) es z h in
    let l = last_found (next_at a.later) w.tail z fin w.runs in
    record { closed = inr (some, dots, line, l.end); count = l.tail.count; is = w.emitted_is ∙ ap (λ (x : List Event). DocumentEnd ∷ x) l.tail.is })
    (λ _ h. refused [] Form es z h))
    (λ _ h. refused [] (cond (at_dashes a) NotCarried (line_fault g a)) es z h))

explicit_found : (a : At) (es : List Event) (z : State) → z.mode ≡ Ended → From [] (explicit_at 0 a) es z → FoundBy Explicit [] a es z
unfolding explicit_at
explicit_found a es z fin h =
    choose [] (ends a.line) _ _ es z h
    (λ end h. found_as (λ t. Below (Node None t) None t) Explicit [] (next_at a.later) a es z (λ t c form. inl (end, form))
    (below_found (length es) (node_law (length es)) [] None (next_at a.later) es z (omega arith) fin (omega arith) h))
    (λ end h. choose [] (eqb (spaces a.line) (whites a.line)) _ _ es z h
    (λ white h. found_as (Inline None) Explicit [] (over a) a es z (λ t c form. inr (end, white, form)) (inline_found None [] (over a) es z fin (omega arith) h))
    (λ _ h. refused [] NotCarried es z h))

-- a document from its first content on
record Whole (text : List ℕ) (es : List Event) : Type 0 where
  tree : Option Tree
  carried : Carried text tree
  count : ℕ
  is : StreamStart ∷ es ≡ stream_emitted tree (ends_again count)

whole : (text : List ℕ) (es tail : List Event) (z : State) → z.mode ≡ Ended → is_end (first_at text) ≡ false → es ≡ DocumentStart ∷ tail → FoundBy ADocument [] (first_at text) tail z → Whole text es
whole text es tail z fin some is f =
    let c = closed_found f.continues f.end f.rest z fin f.runs in
    let shallow : depth f.tree ≤ 64 = omega (arith, f.shallow) in
    record {
      tree = Some f.tree;
      carried = (f.end, some, f.form, c.closed, shallow);
      count = c.count;
      is = ap (λ (x : List Event). StreamStart ∷ x) (is ∙ ap (λ (x : List Event). DocumentStart ∷ x) (f.emitted_is ∙ ap (emitted f.tree) c.is));
    }

document_found : (text : List ℕ) (es : List Event) (z : State) → z.mode ≡ Ended → Runs (state Document [] (first_at text)) es z → Whole text es
unfolding step_at document_at
document_found text es z fin runs =
    let a = first_at text in
    choose [] (is_end a) _ _ es z (step Document a es z (λ e. absurd cc) fin runs)
    (λ end h.
    let e = end_found a es z h in
    record { tree = None; carried = end; count = e.count; is = ap (λ (x : List Event). StreamStart ∷ x) e.is })
    (λ some h. choose [] (at_dashes a) _ _ es z h
    (λ dashes h.
    let w = went [] (transition DocumentStart (past 3 a) (Root true) Keep) es z h in
    whole text es w.tail z fin some w.emitted_is
    (found_as Explicit ADocument [] (past 3 a) a w.tail z (λ t c form. inl (dashes, form))
    (explicit_found (past 3 a) w.tail z fin (step (Root true) (past 3 a) w.tail z (λ e. absurd cc) fin w.runs))))
    (λ dashes h. choose [] (begins 37 a.line) _ _ es z h
    (λ _ h. refused [] NotCarried es z h)
    (λ percent h.
    let w = went [] (transition DocumentStart a (Root false) Keep) es z h in
    whole text es w.tail z fin some w.emitted_is
    (found_as (Node None) ADocument [] a a w.tail z (λ t c form. inr (dashes, percent, form))
    (node_law (length w.tail) [] None a w.tail z (omega arith) fin (omega arith) (step (Root false) a w.tail z (λ e. absurd cc) fin w.runs))))))

-- what is emitted to the stream's end is a carried document, and then the end again
pub record FoundText (text : List ℕ) (es : List Event) : Type 0 where
  pub tree : Option Tree
  pub carried : Carried text tree
  pub count : ℕ
  pub is : es ≡ stream_emitted tree (ends_again count)

pub found : (text : List ℕ) (es : List Event) → Emits text es → FoundText text es
unfolding step_at
found text es (z, runs, fin) =
    let w = went [] (transition StreamStart (first_at text) Document Keep) es z (step Begin (first_at text) es z (λ e. absurd cc) fin runs) in
    let d = document_found text w.tail z fin w.runs in
    record { tree = d.tree; carried = d.carried; count = d.count; is = w.emitted_is ∙ d.is }
