-- A carried document whose read is refused is refused where its node says so.
use Rattle.std.proofs.Common.{◌≡◌, ℕ, zero, suc, List, [], ◌∷◌, true, false, inl, Option, Some, None, Result, Ok, Err, refl, sym, ap, ◌∙◌, subst}
use Rattle.warg_values.specs.Reading.{◌>>=◌}
use Rattle.yaml_small.specs.declared.event.Event.{Event}
use Rattle.yaml_small.specs.declared.event.Event.TheVariants as events
use Rattle.yaml_small.specs.Trees.{Tree, emitted, stream_emitted, ends_again}
use Rattle.yaml_small.specs.Stream.{State, next, start, Runs}
use Rattle.yaml_read.specs.Source.{Source, Refusal, Refused, TooManyEvents, pull, front, why}
use Rattle.yaml_read.specs.Collections.{is_stream_end}
use Rattle.yaml_read.specs.Emitted.{Emits, Reads}
use Rattle.yaml_read.specs.JoinLaws.{emitted_cut}
use Rattle.yaml_read.specs.Whole.{source_at, is_document_start, is_document_end, behind_start, opened_at, ended_stream, stream_end_at, ended_document, closed_at, whole_from, whole_at}
use Rattle.yaml_causes.specs.Causes.{OrUncounted}
use Rattle.yaml_causes.specs.TreeLaws.{read_is}
use Rattle.yaml_causes.specs.CauseLaws.{Tells, steps, pull_told, pull_event, front_told, front_event, no_ok}

-- the stream's end
stream_end_told : (s : Source) (z : State) (r : Refused) → next s.state ≡ Ok (events.StreamEnd, z) → stream_end_at s ≡ Err r → r.refusal ≡ TooManyEvents
unfolding stream_end_at
stream_end_told s z r here h =
    steps (front s) _ r h
    (λ no. front_told s events.StreamEnd z r here no)
    (λ c. by (sym (ap (λ (e : Event). ended_stream (is_stream_end e) s) (front_event s events.StreamEnd z c.value here c.is)) ∙ c.then))
  where
    by : ended_stream true s ≡ Err r → r.refusal ≡ TooManyEvents
    by h = steps (pull s) _ r h (λ no. pull_told s events.StreamEnd z r here no) (λ c. no_ok r c.then)

closed_empty : (s : Source) (z : State) (r : Refused) → next s.state ≡ Ok (events.StreamEnd, z) → closed_at s ≡ Err r → r.refusal ≡ TooManyEvents
unfolding closed_at
closed_empty s z r here h =
    steps (front s) _ r h
    (λ no. front_told s events.StreamEnd z r here no)
    (λ c. stream_end_told s z r here (sym (ap (λ (e : Event). ended_document (is_document_end e) s) (front_event s events.StreamEnd z c.value here c.is)) ∙ c.then))

closed_document : (s : Source) (m z : State) (r : Refused) → next s.state ≡ Ok (events.DocumentEnd, m) → next m ≡ Ok (events.StreamEnd, z) → closed_at s ≡ Err r → r.refusal ≡ TooManyEvents
unfolding closed_at
closed_document s m z r here last h =
    steps (front s) _ r h
    (λ no. front_told s events.DocumentEnd m r here no)
    (λ c. by (sym (ap (λ (e : Event). ended_document (is_document_end e) s) (front_event s events.DocumentEnd m c.value here c.is)) ∙ c.then))
  where
    by : ended_document true s ≡ Err r → r.refusal ≡ TooManyEvents
    by h =
        steps (pull s) _ r h
        (λ no. pull_told s events.DocumentEnd m r here no)
        (λ c. stream_end_told c.value.1 z r (subst (λ (q : State). next q ≡ Ok (events.StreamEnd, z)) (sym (pull_event s events.DocumentEnd m c.value here c.is).1) last) c.then)

-- where a value stands between the starts and the ends
record Opened (text : List ℕ) (node : Option Tree) : Type 0 where
  first : State
  last : State
  opens : (r : Refused) → opened_at text ≡ Err r → r.refusal ≡ TooManyEvents
  stands : (s : Source) → opened_at text ≡ Ok s → Emits s.state node last
  closes : (s : Source) (r : Refused) → s.state ≡ last → closed_at s ≡ Err r → r.refusal ≡ TooManyEvents

-- an empty document
opened_empty : (text : List ℕ) (z : State) → Runs (start text) (stream_emitted None (ends_again (suc zero))) z → Opened text None
unfolding opened_at
opened_empty text z run =
    let m = run.0 in
    let w = run.2.0 in
    record {
      first = m;
      last = w;
      opens = λ r h.
          steps (pull (source_at text)) _ r h
          (λ no. pull_told (source_at text) events.StreamStart m r run.1 no)
          (λ b.
          let at = (pull_event (source_at text) events.StreamStart m b.value run.1 b.is).1 in
          let here = subst (λ (q : State). next q ≡ Ok (events.StreamEnd, w)) (sym at) run.2.1 in
          steps (front b.value.1) _ r b.then
          (λ no. front_told b.value.1 events.StreamEnd w r here no)
          (λ c. no_ok r (sym (ap (λ (e : Event). behind_start (is_document_start e) b.value.1) (front_event b.value.1 events.StreamEnd w c.value here c.is)) ∙ c.then)));
      stands = λ s h. stood s (pull (source_at text)) refl h;
      closes = λ s r at h. closed_empty s run.2.2.0 r (subst (λ (q : State). next q ≡ Ok (events.StreamEnd, run.2.2.0)) (sym at) run.2.2.1) h;
    }
  where
    begun : (s : Source) (b : Source) → next b.state ≡ Ok (events.StreamEnd, run.2.0) → (f : Result Event Refused) → front b ≡ f → (f >>= λ e. behind_start (is_document_start e) b) ≡ Ok s → Emits s.state None run.2.0
    begun s b here (Err x) is h = absurd cc
    begun s b here (Ok e) is h =
        let same : behind_start false b ≡ Ok s = sym (ap (λ (d : Event). behind_start (is_document_start d) b) (front_event b events.StreamEnd run.2.0 e here is)) ∙ h in
        subst (λ (q : Source). Emits q.state None run.2.0) (ok_same b s same) here
      where
        ok_same : (x y : Source) → behind_start false x ≡ Ok y → x ≡ y
        ok_same x y h = cc

    stood : (s : Source) (p : Result (Event × Source) Refused) → pull (source_at text) ≡ p → (p >>= λ b. front b.1 >>= λ e. behind_start (is_document_start e) b.1) ≡ Ok s → Emits s.state None run.2.0
    stood s (Err x) is h = absurd cc
    stood s (Ok b) is h =
        let at = (pull_event (source_at text) events.StreamStart run.0 b run.1 is).1 in
        begun s b.1 (subst (λ (q : State). next q ≡ Ok (events.StreamEnd, run.2.0)) (sym at) run.2.1) (front b.1) refl h

-- a document with a tree
opened_document : (text : List ℕ) (t : Tree) (z : State) → Runs (start text) (stream_emitted (Some t) (ends_again (suc zero))) z → Opened text (Some t)
unfolding opened_at
opened_document text t z run =
    let m = run.0 in
    let first = run.2.0 in
    let c = emitted_cut first t (events.DocumentEnd ∷ events.StreamEnd ∷ ends_again (suc zero)) z run.2.2 in
    record {
      first = m;
      last = c.0;
      opens = λ r h.
          steps (pull (source_at text)) _ r h
          (λ no. pull_told (source_at text) events.StreamStart m r run.1 no)
          (λ b.
          let at = (pull_event (source_at text) events.StreamStart m b.value run.1 b.is).1 in
          let here = subst (λ (q : State). next q ≡ Ok (events.DocumentStart, first)) (sym at) run.2.1 in
          steps (front b.value.1) _ r b.then
          (λ no. front_told b.value.1 events.DocumentStart first r here no)
          (λ d. taken b.value.1 here r (sym (ap (λ (e : Event). behind_start (is_document_start e) b.value.1) (front_event b.value.1 events.DocumentStart first d.value here d.is)) ∙ d.then)));
      stands = λ s h. stood c.0 c.1 s (pull (source_at text)) refl h;
      closes = λ s r at h.
          closed_document s c.2.0 c.2.2.0 r (subst (λ (q : State). next q ≡ Ok (events.DocumentEnd, c.2.0)) (sym at) c.2.1) c.2.2.1 h;
    }
  where
    taken : (b : Source) → next b.state ≡ Ok (events.DocumentStart, run.2.0) → (r : Refused) → behind_start true b ≡ Err r → r.refusal ≡ TooManyEvents
    taken b here r h = steps (pull b) _ r h (λ no. pull_told b events.DocumentStart run.2.0 r here no) (λ c. no_ok r c.then)

    began : (w : State) → Runs run.2.0 (emitted t []) w → (s b : Source) → next b.state ≡ Ok (events.DocumentStart, run.2.0) → (p : Result (Event × Source) Refused) → pull b ≡ p → (p >>= λ e. behind_start false e.1) ≡ Ok s → Emits s.state (Some t) w
    began w tree s b here (Err x) is h = absurd cc
    began w tree s b here (Ok e) is h =
        let at = (pull_event b events.DocumentStart run.2.0 e here is).1 in
        subst (λ (q : Source). Runs q.state (emitted t []) w) (ok_same e.1 s h) (subst (λ (q : State). Runs q (emitted t []) w) (sym at) tree)
      where
        ok_same : (x y : Source) → behind_start false x ≡ Ok y → x ≡ y
        ok_same x y h = cc

    begun : (w : State) → Runs run.2.0 (emitted t []) w → (s b : Source) → next b.state ≡ Ok (events.DocumentStart, run.2.0) → (f : Result Event Refused) → front b ≡ f → (f >>= λ e. behind_start (is_document_start e) b) ≡ Ok s → Emits s.state (Some t) w
    begun w tree s b here (Err x) is h = absurd cc
    begun w tree s b here (Ok e) is h =
        began w tree s b here (pull b) refl (sym (ap (λ (d : Event). behind_start (is_document_start d) b) (front_event b events.DocumentStart run.2.0 e here is)) ∙ h)

    stood : (w : State) → Runs run.2.0 (emitted t []) w → (s : Source) (p : Result (Event × Source) Refused) → pull (source_at text) ≡ p → (p >>= λ b. front b.1 >>= λ e. behind_start (is_document_start e) b.1) ≡ Ok s → Emits s.state (Some t) w
    stood w tree s (Err x) is h = absurd cc
    stood w tree s (Ok b) is h =
        let at = (pull_event (source_at text) events.StreamStart run.0 b run.1 is).1 in
        begun w tree s b.1 (subst (λ (q : State). next q ≡ Ok (events.DocumentStart, run.2.0)) (sym at) run.2.1) (front b.1) refl h

opened : (text : List ℕ) (node : Option Tree) (z : State) → Runs (start text) (stream_emitted node (ends_again (suc zero))) z → Opened text node
opened text None z run = opened_empty text z run
opened text (Some t) z run = opened_document text t z run

why_told : {X : Type 0} (r : Result X Refused) (refusal : Refusal) → why r ≡ Err refusal → (e : Refused) × ((r ≡ Err e) × (e.refusal ≡ refusal))
why_told (Ok x) refusal h = absurd cc
why_told {X} (Err e) refusal h = (e, (refl, same X e.refusal refusal h))
  where
    same : (Y : Type 0) (x y : Refusal) → why {X = Y} (Err (record { refusal = x; leaves = e.leaves })) ≡ Err y → x ≡ y
    same Y x y h = cc

-- The text's events, with the stream's end once more, lead to some state.
pub whole_told : {X : Type 0} (of_node : Option Tree → Option X) (Refuses : Option Tree → Refusal → Type 0) (read : Source → Result (X × Source) Refused) → Reads of_node read → Tells Refuses read
    → (text : List ℕ) (node : Option Tree) (z : State) (refusal : Refusal) → Runs (start text) (stream_emitted node (ends_again (suc zero))) z → whole_at read text ≡ Err refusal → OrUncounted (Refuses node) refusal
unfolding whole_from
whole_told {X} of_node Refuses read law tells text node z refusal run h =
    let o = opened text node z run in
    let e = why_told (whole_from read text) refusal h in
    subst (OrUncounted (Refuses node)) e.1.1
    (steps (opened_at text) _ e.0 e.1.0
    (λ no. inl (o.opens e.0 no))
    (λ s.
    let stands = o.stands s.value s.is in
    steps (read s.value) _ e.0 s.then
    (λ no. tells.told s.value node o.last e.0 stands no)
    (λ x.
    let k = read_is of_node read law s.value node o.last x.value.0 x.value.1 stands x.is in
    steps (closed_at x.value.1) _ e.0 x.then
    (λ no. inl (o.closes x.value.1 e.0 k.state no))
    (λ c. no_ok e.0 c.then))))
