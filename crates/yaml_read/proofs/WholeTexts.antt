-- Whole texts: what is read is carried, and what is carried is read.
use Rattle.std.proofs.Common.{◌≡◌, ℕ, ◌-◌, eqb, List, [], ◌∷◌, Bool, true, false, cond, Option, Some, None, Result, Ok, Err, IfOk, refl, sym, ap, ◌∙◌, subst, ◌⊎◌, inl, inr}
use Rattle.warg_values.specs.Reading.{◌>>=◌}
use Rattle.warg_values.specs.ReadingLaws.{bind_ok, ok_is}
use Rattle.yaml_small.specs.declared.event.Event.{Event}
use Rattle.yaml_small.specs.declared.event.Event.TheVariants as events
use Rattle.yaml_small.specs.Trees.{Tree, Leaf, Seq, Map, emitted, stream_emitted, ends_again}
use Rattle.yaml_small.specs.Scalars.{Fault}
use Rattle.yaml_small.specs.Grammar.{Carried}
use Rattle.yaml_small.specs.Step.{step_at}
use Rattle.yaml_small.specs.Stream.{State, next, start, Runs}
use Rattle.yaml_small.specs.declared.error.ScanError.TheVariants as scans
use Rattle.yaml_small.specs.FoundTextLaws.{found}
use Rattle.yaml_small.specs.CarriedLaws.{is_carried}
use Rattle.yaml_small.specs.EmittedTextLaws.{carried_emitted}
use Rattle.yaml_small.specs.LiveLaws.{stream_end}
use Rattle.yaml_read.specs.declared.error.DeError.{DeError}
use Rattle.yaml_read.specs.declared.error.DeError.TheVariants as errors
use Rattle.yaml_read.specs.Answers.{ReadGives, ReadFails}
use Rattle.yaml_read.specs.Source.{Source, Refusal, TooManyEvents, pull, front, event_alone, Refused, refused, why}
use Rattle.yaml_read.specs.Collections.{is_stream_end}
use Rattle.yaml_read.specs.Emitted.{Emits, Gets, Reads}
use Rattle.yaml_read.specs.TakingLaws.{pull_is, front_is}
use Rattle.yaml_read.specs.JoinLaws.{emitted_join, emitted_cut}
use Rattle.yaml_read.specs.Whole.{source_at, is_document_start, is_document_end, behind_start, opened_at, ended_stream, stream_end_at, ended_document, closed_at, whole_from, whole_at, Holds}
use Rattle.yaml_read.proofs.Tails.{tails}

-- what was taken, given what stood there
taken_there : (s : Source) (e : Event) (t : Event × Source) → front s ≡ Ok e → pull s ≡ Ok t → next s.state ≡ Ok (e, t.1.state)
taken_there s e t f p =
    let a = front_is s e f in
    let same = ok_is {F = Refused} t (e, a.0) (sym p ∙ a.1) in
    pull_is s e a.0 a.1 ∙ ap (λ (v : Event × Source). Ok (e, v.1.state)) (sym same)

stream_end_is : (e : Event) → is_stream_end e ≡ true → e ≡ events.StreamEnd
stream_end_is events.StreamEnd h = refl
stream_end_is e h = absurd cc

document_end_is : (e : Event) → is_document_end e ≡ true → e ≡ events.DocumentEnd
document_end_is events.DocumentEnd h = refl
document_end_is e h = absurd cc

document_start_is : (e : Event) → is_document_start e ≡ true → e ≡ events.DocumentStart
document_start_is events.DocumentStart h = refl
document_start_is e h = absurd cc

-- the end of the stream was taken
stream_closed : (s : Source) (x : Unit {0}) (m : Source) → stream_end_at s ≡ Ok (x, m) → next s.state ≡ Ok (events.StreamEnd, m.state)
unfolding stream_end_at
stream_closed s x m h = let a = bind_ok (front s) _ _ h in by_test a.0 a.1 (is_stream_end a.0) refl a.2
  where
    by_test : (e : Event) → front s ≡ Ok e → (b : Bool) → is_stream_end e ≡ b → ended_stream b s ≡ Ok (x, m) → next s.state ≡ Ok (events.StreamEnd, m.state)
    by_test e f true is h =
        let p = bind_ok (pull s) _ _ h in
        taken_there s e p.0 f p.1 ∙ ap (λ (v : Event). Ok (v, p.0.1.state)) (stream_end_is e is) ∙ ap (λ (v : Unit {0} × Source). Ok (events.StreamEnd, v.1.state)) (ok_is {F = Refused} (tt, p.0.1) (x, m) p.2)
    by_test e f false is h = absurd cc

-- the ends of the document and of the stream, or of the stream alone
abbrev Closes : State → State → Type 0
Closes s z = ((k : State) × (next s ≡ Ok (events.DocumentEnd, k)) × (next k ≡ Ok (events.StreamEnd, z))) ⊎ (next s ≡ Ok (events.StreamEnd, z))

closes : (s : Source) (x : Unit {0}) (m : Source) → closed_at s ≡ Ok (x, m) → Closes s.state m.state
unfolding closed_at
closes s x m h = let a = bind_ok (front s) _ _ h in by_test a.0 a.1 (is_document_end a.0) refl a.2
  where
    by_test : (e : Event) → front s ≡ Ok e → (b : Bool) → is_document_end e ≡ b → ended_document b s ≡ Ok (x, m) → Closes s.state m.state
    by_test e f true is h =
        let p = bind_ok (pull s) _ _ h in
        inl (p.0.1.state, taken_there s e p.0 f p.1 ∙ ap (λ (v : Event). Ok (v, p.0.1.state)) (document_end_is e is), stream_closed p.0.1 x m p.2)
    by_test e f false is h = inr (stream_closed s x m h)

-- the first event of a text
start_emits : (text : List ℕ) → (z : State) × (next (start text) ≡ Ok (events.StreamStart, z))
unfolding next step_at
start_emits text = (_, refl)

-- the starts that were taken
opens : (text : List ℕ) (s : Source) → opened_at text ≡ Ok s
    → Runs (start text) (events.StreamStart ∷ events.DocumentStart ∷ []) s.state ⊎ Runs (start text) (events.StreamStart ∷ []) s.state
unfolding opened_at
opens text s h =
    let a = bind_ok (pull (source_at text)) _ _ h in
    let b = bind_ok (front a.0.1) _ _ a.2 in
    let t = start_emits text in
    let here : next (start text) ≡ Ok (events.StreamStart, a.0.1.state) =
    pull_is (source_at text) a.0.0 a.0.1 a.1 ∙ ap (λ (v : Event × State). Ok (v.0, a.0.1.state)) (ok_is {F = Fault} (a.0.0, a.0.1.state) (events.StreamStart, t.0) (sym (pull_is (source_at text) a.0.0 a.0.1 a.1) ∙ t.1)) in
    by_test a.0.1 here b.0 b.1 (is_document_start b.0) refl b.2
  where
    by_test : (w : Source) → next (start text) ≡ Ok (events.StreamStart, w.state) → (e : Event) → front w ≡ Ok e → (b : Bool) → is_document_start e ≡ b → behind_start b w ≡ Ok s
        → Runs (start text) (events.StreamStart ∷ events.DocumentStart ∷ []) s.state ⊎ Runs (start text) (events.StreamStart ∷ []) s.state
    by_test w here e f true is h =
        let p = bind_ok (pull w) _ _ h in
        inl (w.state, here, (s.state, taken_there w e p.0 f p.1 ∙ ap (λ (v : Event). Ok (v, p.0.1.state)) (document_start_is e is) ∙ ap (λ (v : Source). Ok (events.DocumentStart, v.state)) (ok_is {F = Refused} p.0.1 s p.2), refl))
    by_test w here e f false is h = inr (s.state, here ∙ ap (λ (v : Source). Ok (events.StreamStart, v.state)) (ok_is {F = Refused} w s h), refl)

-- The events from a text's start to its end are those of its document.
abbrev IsDocument : List ℕ → List Event → Type 0
IsDocument text es = (o : Option Tree) × Carried text o × (n : ℕ) × (es ≡ stream_emitted o (ends_again n))

emits_all : (text : List ℕ) (es : List Event) (k z : State) → Runs (start text) es z → next k ≡ Ok (events.StreamEnd, z) → IsDocument text es
emits_all text es k z run last = let f = found text es (z, run, stream_end k z last) in (f.tree, f.carried, f.count, f.is)

-- Behind the start of a document a node stands, and behind a node the document's end.
abbrev start_document : List Event → List Event
start_document es = events.StreamStart ∷ events.DocumentStart ∷ es

abbrev start_stream : List Event → List Event
start_stream es = events.StreamStart ∷ es

inside_one : (es fs : List Event) → start_document es ≡ start_document fs → es ≡ fs
inside_one es fs h = cc

no_end : (t : Tree) (o : Option Tree) (es : List Event) → start_document (emitted t (events.StreamEnd ∷ [])) ≡ stream_emitted o es → ⊥
no_end t None es h = cc
no_end t (Some u) es h = let e = tails t u (events.StreamEnd ∷ []) (events.DocumentEnd ∷ events.StreamEnd ∷ es) (inside_one _ _ h) in cc

no_node : (o : Option Tree) (es : List Event) → start_document (events.StreamEnd ∷ []) ≡ stream_emitted o es → ⊥
no_node None es h = cc
no_node (Some (Leaf s)) es h = cc
no_node (Some (Seq ts)) es h = cc
no_node (Some (Map ps)) es h = cc

no_start : (t : Tree) (o : Option Tree) (es fs : List Event) → start_stream (emitted t fs) ≡ stream_emitted o es → ⊥
no_start (Leaf s) None es fs h = cc
no_start (Seq ts) None es fs h = cc
no_start (Map ps) None es fs h = cc
no_start (Leaf s) (Some u) es fs h = cc
no_start (Seq ts) (Some u) es fs h = cc
no_start (Map ps) (Some u) es fs h = cc

-- what is read is carried
why_is : {X : Type 0} (r : Result X Refused) (x : X) → why r ≡ Ok x → r ≡ Ok x
why_is {X} (Ok y) x h = ap (λ (v : X). Ok v) (ok_is {F = Refusal} y x h)
why_is (Err refused) x h = absurd cc

pub whole_found : {X : Type 0} (of_node : Option Tree → Option X) (read : Source → Result (X × Source) Refused) → Reads of_node read → (text : List ℕ) (x : X) → whole_at read text ≡ Ok x → Holds of_node text x
unfolding whole_from
whole_found {X} of_node read law text x h =
    let a = bind_ok (opened_at text) _ _ (why_is (whole_from read text) x h) in
    let b = bind_ok (read a.0) _ _ a.2 in
    let c = bind_ok (closed_at b.0.1) _ _ b.2 in
    let f = law.sound a.0 b.0.0 b.0.1 b.1 in
    let same = ok_is {F = Refused} b.0.0 x c.2 in
    let is : of_node f.node ≡ Some x = f.read ∙ ap Some same in
    by_start a.0.state b.0.1.state c.0.1.state f.node f.emitted is (closes b.0.1 c.0.0 c.0.1 c.1) (opens text a.0 a.1)
  where
    bare : (s y z : State) (t : Tree) → Runs s (emitted t []) y → Runs (start text) (events.StreamStart ∷ []) s → Closes y z → ⊥
    bare s y z t run begun (inl (k, first, last)) =
        let d = emits_all text (start_stream (emitted t (events.DocumentEnd ∷ events.StreamEnd ∷ []))) k z
        (begun.0, begun.1, subst (λ (q : State). Runs q (emitted t (events.DocumentEnd ∷ events.StreamEnd ∷ [])) z) (sym begun.2) (emitted_join s t y (events.DocumentEnd ∷ events.StreamEnd ∷ []) z run (k, first, (z, last, refl)))) last in
        no_start t d.0 (ends_again d.2) _ d.3
    bare s y z t run begun (inr last) =
        let d = emits_all text (start_stream (emitted t (events.StreamEnd ∷ []))) y z
        (begun.0, begun.1, subst (λ (q : State). Runs q (emitted t (events.StreamEnd ∷ [])) z) (sym begun.2) (emitted_join s t y (events.StreamEnd ∷ []) z run (z, last, refl))) last in
        no_start t d.0 (ends_again d.2) _ d.3

    within : (s y z : State) (t : Tree) → Runs s (emitted t []) y → Runs (start text) (events.StreamStart ∷ events.DocumentStart ∷ []) s → of_node (Some t) ≡ Some x → Closes y z → Holds of_node text x
    within s y z t run begun is (inl (k, first, last)) =
        let inner = begun.2 in (
          Some t,
          is_carried text (Some t) z (
            begun.0,
            begun.1,
            (
              inner.0,
              inner.1,
              subst (λ (q : State). Runs q (emitted t (events.DocumentEnd ∷ events.StreamEnd ∷ [])) z) (sym inner.2) (emitted_join s t y (events.DocumentEnd ∷ events.StreamEnd ∷ []) z run (k, first, (z, last, refl))),
            ),
          ),
          is,
        )
    within s y z t run begun is (inr last) =
        let inner = begun.2 in
        let d = emits_all text (start_document (emitted t (events.StreamEnd ∷ []))) y z
        (begun.0, begun.1, (inner.0, inner.1, subst (λ (q : State). Runs q (emitted t (events.StreamEnd ∷ [])) z) (sym inner.2) (emitted_join s t y (events.StreamEnd ∷ []) z run (z, last, refl)))) last in
        absurd (no_end t d.0 (ends_again d.2) d.3)

    by_start : (s y z : State) (node : Option Tree) → Emits s node y → of_node node ≡ Some x → Closes y z
        → Runs (start text) (events.StreamStart ∷ events.DocumentStart ∷ []) s ⊎ Runs (start text) (events.StreamStart ∷ []) s → Holds of_node text x
    by_start s y z (Some t) run is close (inl begun) = within s y z t run begun is close
    by_start s y z (Some t) run is close (inr begun) = absurd (bare s y z t run begun close)
    by_start s y z None last is close (inl begun) =
        let inner = begun.2 in
        let d = emits_all text (start_document (events.StreamEnd ∷ [])) s y (begun.0, begun.1, (inner.0, inner.1, (y, ap next inner.2 ∙ last, refl))) last in
        absurd (no_node d.0 (ends_again d.2) d.3)
    by_start s y z None last is close (inr begun) =
        (None, is_carried text None y (begun.0, begun.1, (y, ap next begun.2 ∙ last, refl)), is)

-- the value, or no further counting
abbrev pub Answers : {X : Type 0} → X → Result X Refusal → Type 0
Answers x (Ok y) = y ≡ x
Answers x (Err refusal) = refusal ≡ TooManyEvents

abbrev AnswersAt : {X : Type 0} → X → Result X Refused → Type 0
AnswersAt x r = Answers x (why r)

pull_or : {A : Type 0} (Q : Result A Refused → Type 0) (s : Source) (e : Event) (z : State) (f : Event × Source → Result A Refused) → next s.state ≡ Ok (e, z) → ((m : Source) → Q (refused m TooManyEvents))
    → ((m : Source) → m.state ≡ z → Q (f (e, m))) → Q (pull s >>= f)
unfolding pull
pull_or Q s e z f h none go = rw h (counted (eqb s.left 0))
  where
    counted : (b : Bool) → Q (cond b (refused s TooManyEvents) (Ok (e, record { state = z; left = s.left - 1 })) >>= f)
    counted true = none s
    counted false = go (record { state = z; left = s.left - 1 }) refl

front_or : {A : Type 0} (Q : Result A Refused → Type 0) (s : Source) (e : Event) (z : State) (f : Event → Result A Refused) → next s.state ≡ Ok (e, z) → ((m : Source) → Q (refused m TooManyEvents)) → Q (f e) → Q (front s >>= f)
unfolding pull front
front_or Q s e z f h none go = rw h (counted (eqb s.left 0))
  where
    counted : (b : Bool) → Q (event_alone (cond b (refused s TooManyEvents) (Ok (e, record { state = z; left = s.left - 1 }))) >>= f)
    counted true = none s
    counted false = go

read_or : {A X : Type 0} (Q : Result A Refused → Type 0) (left : ℕ) (x : X) (z : State) (r : Result (X × Source) Refused) (f : X × Source → Result A Refused) → Gets left x z r → ((m : Source) → Q (refused m TooManyEvents))
    → ((m : Source) → m.state ≡ z → Q (f (x, m))) → Q (r >>= f)
read_or {A} {X} Q left x z (Ok p) f h none go = subst (λ (v : X). Q (f (v, p.1))) (sym h.0) (go p.1 h.1)
read_or {A} Q left x z (Err r) f h none go = subst (λ (v : Refusal). Q (Err (record { refusal = v; leaves = r.leaves }))) (sym h) (none r.leaves)

stream_end_or : {A : Type 0} (Q : Result A Refused → Type 0) (s : Source) (z : State) (f : Unit {0} × Source → Result A Refused) → next s.state ≡ Ok (events.StreamEnd, z) → ((m : Source) → Q (refused m TooManyEvents))
    → ((m : Source) → Q (f (tt, m))) → Q (stream_end_at s >>= f)
unfolding stream_end_at
stream_end_or Q s z f h none go =
    front_or (λ r. Q (r >>= f)) s events.StreamEnd z _ h none (pull_or (λ r. Q (r >>= f)) s events.StreamEnd z _ h none (λ m at. go m))

closed_or : {A : Type 0} (Q : Result A Refused → Type 0) (s : Source) (z : State) (f : Unit {0} × Source → Result A Refused) → Closes s.state z → ((m : Source) → Q (refused m TooManyEvents)) → ((m : Source) → Q (f (tt, m))) → Q (closed_at s >>= f)
unfolding closed_at
closed_or Q s z f (inl (k, first, last)) none go =
    front_or (λ r. Q (r >>= f)) s events.DocumentEnd k _ first none
    (pull_or (λ r. Q (r >>= f)) s events.DocumentEnd k _ first none (λ m at. stream_end_or Q m z f (ap next at ∙ last) none go))
closed_or Q s z f (inr last) none go = front_or (λ r. Q (r >>= f)) s events.StreamEnd z _ last none (stream_end_or Q s z f last none go)

opened_or : {A : Type 0} (Q : Result A Refused → Type 0) (text : List ℕ) (y z : State) (e : Event) (f : Source → Result A Refused) → next (start text) ≡ Ok (events.StreamStart, y) → next y ≡ Ok (e, z) → ((m : Source) → Q (refused m TooManyEvents))
    → ((m : Source) → m.state ≡ cond (is_document_start e) z y → Q (f m)) → Q (opened_at text >>= f)
unfolding opened_at
opened_or {A} Q text y z e f here then none go =
    pull_or (λ r. Q (r >>= f)) (source_at text) events.StreamStart y _ here none
    (λ m at. front_or (λ r. Q (r >>= f)) m e z _ (ap next at ∙ then) none (by_test m at (is_document_start e) (λ k is. go k is)))
  where
    by_test : (m : Source) → m.state ≡ y → (b : Bool) → ((k : Source) → k.state ≡ cond b z y → Q (f k)) → Q (behind_start b m >>= f)
    by_test m at true go = pull_or (λ r. Q (r >>= f)) m e z _ (ap next at ∙ then) none (λ k there. go k there)
    by_test m at false go = go m at

-- what is carried is read, if enough events may be taken
pub whole_answers : {X : Type 0} (of_node : Option Tree → Option X) (read : Source → Result (X × Source) Refused) → Reads of_node read → (text : List ℕ) (x : X) → Holds of_node text x → Answers x (whole_at read text)
unfolding whole_from
whole_answers {X} of_node read law text x (None, carried, is) =
    let t = carried_emitted text None 1 carried in
    let run = t.1 in
    let first = run.2 in
    let second = first.2 in
    opened_or (AnswersAt x) text run.0 first.0 events.StreamEnd _ run.1 first.1 (λ _. refl)
    (λ s at. read_or (AnswersAt x) s.left x first.0 (read s) _ (law.complete s None first.0 x (ap next at ∙ first.1) is) (λ _. refl)
    (λ m there. closed_or (AnswersAt x) m second.0 _ (inr (ap next there ∙ second.1)) (λ _. refl) (λ k. refl)))
whole_answers {X} of_node read law text x (Some t, carried, is) =
    let emitted_all = carried_emitted text (Some t) 0 carried in
    let run = emitted_all.1 in
    let first = run.2 in
    let c = emitted_cut first.0 t (events.DocumentEnd ∷ events.StreamEnd ∷ []) emitted_all.0 first.2 in
    let end = c.2 in
    let last = end.2 in
    opened_or (AnswersAt x) text run.0 first.0 events.DocumentStart _ run.1 first.1 (λ _. refl)
    (λ s at. read_or (AnswersAt x) s.left x c.0 (read s) _ (law.complete s (Some t) c.0 x (subst (λ (q : State). Runs q (emitted t []) c.0) (sym at) c.1) is) (λ _. refl)
    (λ m there. closed_or (AnswersAt x) m last.0 _ (inl (end.0, ap next there ∙ end.1, last.1)) (λ _. refl) (λ k. refl)))

abbrev read_ok : {X : Type 0} → X → Result X Refusal
read_ok x = Ok x

-- so the call gives it, or wants memory
pub gives_answer : {V X : Type 0} (view : V → X) (result : Result V DeError) (r : Result X Refusal) (x : X) → ReadGives view result r → Answers x r → ReadGives view result (Ok x)
gives_answer {V} {X} view (Ok v) r x h a = let same : view v ≡ x = subst (λ (q : Result X Refusal). Answers x q) h a in ap read_ok (sym same)
gives_answer {V} {X} view (Err e) (Ok y) x h a = subst (λ (q : X). ReadFails e (Ok q)) a h
gives_answer {V} {X} view (Err e) (Err refusal) x h a = too_many e (subst (λ (q : Refusal). ReadFails {Y = X} e (Err q)) a h)
  where
    too_many : (e : DeError) → ReadFails {Y = X} e (Err TooManyEvents) → ReadFails e (Ok x)
    too_many errors.Memory h = tt
    too_many (errors.UnexpectedScalar expected text marker) h = absurd cc
    too_many (errors.UnexpectedEvent expected event marker) h = absurd cc
    too_many (errors.Scan scans.Memory) h = absurd h
    too_many (errors.Scan (scans.Form marker)) h = absurd cc
    too_many (errors.Scan (scans.NotCarried marker)) h = absurd cc
    too_many (errors.Scan (scans.TooDeep marker)) h = absurd cc
    too_many (errors.ParseNumber text) h = absurd cc
    too_many errors.Unsupported h = absurd cc
    too_many (errors.RealForm marker) h = absurd cc
    too_many (errors.NotEnded marker) h = absurd cc
    too_many (errors.UnknownField name) h = absurd cc
    too_many (errors.MissingField name) h = absurd cc

pub gives_found : {V X : Type 0} (view : V → X) (result : Result V DeError) (of_node : Option Tree → Option X) (read : Source → Result (X × Source) Refused) → Reads of_node read → (text : List ℕ)
    → ReadGives view result (whole_at read text) → IfOk result (λ v. Holds of_node text (view v))
gives_found view (Ok v) of_node read law text h = whole_found of_node read law text (view v) h
gives_found view (Err e) of_node read law text h = tt
