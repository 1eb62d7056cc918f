-- What a turn of an update leaves, and what it tells where it is refused.
use Rattle.std.proofs.Common.{◌≡◌, ℕ, Bool, List, [], ◌∷◌, ◌++◌, Option, Some, None, Result, Ok, sym, ap, subst, ◌∙◌, inl, inr, get_or}
use Rattle.std.specs.Prelude.{IfSome}
use Rattle.std.proofs.lemmas.Option.{get_or_from_slice_get}
use Rattle.std.proofs.lemmas.List.{append-nil}
use Rattle.warg_log.specs.Rules.{Accepts}
use Rattle.warg_exchange.specs.declared.exchange.Exchange.{Exchange}
use Rattle.warg_exchange.specs.declared.exchange.Request.{Request}
use Rattle.warg_exchange.specs.declared.exchange.Reply.{Reply}
use Rattle.warg_exchange.specs.Requests.{Asker}
use Rattle.warg_api.specs.Link.{Asked, answered}
use Rattle.warg_update.specs.Proved.{Start, Asks}
use Rattle.warg_update.specs.Standing.{Stands, Advances, Counts, IsRefused, request_at}
use Rattle.warg_update.specs.FeedFaults.{AsksDecision}
use Rattle.warg_update.specs.declared.step.UpdateStep.{UpdateStep}
use Rattle.warg_session.specs.Recording.{Transcript, IsKept, exchange}
use Rattle.warg_session.specs.RecordingLaws.{one_more_kept}
use Rattle.warg_session.specs.Turns.{IsSilent, IsSendRefusal, IsAnswered, IsUnasked, IsUnfit}
use Rattle.warg_session.specs.Updating.{IsBegun, IsUnderWay, IsUpdateRefusal, IsRefusedTurn}
use Rattle.warg_session.specs.declared.error.UpdateRefusal.{UpdateRefusal}
use Rattle.warg_session.proofs.PageSteps.{counted_on, counted_with}
use Rattle.warg_session.proofs.TakenReplies.{no_decision}
use Rattle.warg_session.specs.declared.error.UpdateRefusal.TheVariants as refusal

-- the exchange is the one that stands at its place
pub there : (x y : Exchange) → Some x ≡ Some y → x ≡ y
there x y e = cc

-- what holds of the value that is there
pub at_some : {X : Type 0} (P : X → Type 0) (o : Option X) (x : X) → o ≡ Some x → IfSome o P → P x
at_some P None x is h = absurd cc
at_some P (Some y) x is h = subst P (cc) h

-- wherever the step stands, its next request was sent, and its exchange is kept at this place
abbrev pub Replied : {T : Type 0} → Asker → (T → Asked → T → Type 0) → Transcript T → UpdateStep → Transcript T → ℕ → Type 0
Replied a Steps now step next place = (accepts : Accepts) (start : Start) (xs : List Exchange) → Stands accepts a start step xs → IsAnswered Steps now a step place next

module _ {T : Type 0} (accepts : Accepts) (said : Bool → Bool) (limit : ℕ) (a : Asker) (start : Start) (Steps : T → Asked → T → Type 0) (begun : Transcript T) where
  abbrev On : Transcript T → UpdateStep → Type 0
  On now step = IsUnderWay accepts a start Steps begun now limit step

  -- an update that is under way has begun, and so it has where nothing more is kept
  pub begun_by : (now : Transcript T) (step : UpdateStep) → On now step → IsBegun a start begun now
  begun_by now step w = record { exchanges = w.0; kept = w.1.kept.exchanges; asked = w.1.stands.asked }

  pub begun_still : (now next : Transcript T) (step : UpdateStep) → next.exchanges ≡ now.exchanges → On now step → IsBegun a start begun next
  begun_still now next step same w = record { exchanges = w.0; kept = same ∙ w.1.kept.exchanges; asked = w.1.stands.asked }

  -- with a reply to what was asked an update goes on
  pub goes_on : (now next : Transcript T) (old new : UpdateStep) (request : Request) (reply : Reply) → On now old → request_at a old ≡ Some request → IsKept Steps now (answered request reply) next → Advances accepts old reply new → Counts old new → On next new
  goes_on now next old new request reply w asked kept advances counts = (
    w.0 ++ exchange request reply ∷ [],
    record {
      kept = one_more_kept Steps begun now next w.0 (exchange request reply) w.1.kept kept;
      stands = advances a start w.0 request asked w.1.stands;
      counted = counted_on a old new request reply w.0 limit asked counts w.1.counted;
    },
  )

  -- nothing is asked next
  pub silent : (e : UpdateRefusal) (ids : List (List ℕ)) (now : Transcript T) (step : UpdateStep) → IsSilent e a step → On now step → IsUpdateRefusal e ids accepts said limit a start Steps begun now
  silent refusal.RoundLimit ids now step h w = record { step = step; under_way = w; none_left = h }
  silent refusal.BadHeader ids now step h w = h
  silent refusal.Memory ids now step h w = record {}
  silent (refusal.SameLog id) ids now step h w = absurd h
  silent refusal.LinkFault ids now step h w = absurd h
  silent (refusal.Reply e) ids now step h w = absurd h

  -- no reply comes
  pub unanswered_is : (e : UpdateRefusal) (ids : List (List ℕ)) (now next : Transcript T) (step : UpdateStep) (request : Request) → IsSendRefusal e Steps now request next → (w : On now step) → Asks a start w.0 request → request_at a step ≡ Some request → IsUpdateRefusal e ids accepts said limit a start Steps begun next
  unanswered_is refusal.LinkFault ids now next step request h w asks asked = record { exchanges = w.0; before = now; kept = w.1.kept; request = request; asks = asks; within = counted_with a step request w.0 limit asked w.1.counted; no_reply = h }
  unanswered_is refusal.Memory ids now next step request h w asks asked = record {}
  unanswered_is refusal.RoundLimit ids now next step request h w asks asked = absurd h
  unanswered_is refusal.BadHeader ids now next step request h w asks asked = absurd h
  unanswered_is (refusal.SameLog id) ids now next step request h w asks asked = absurd h
  unanswered_is (refusal.Reply e) ids now next step request h w asks asked = absurd h

  pub nothing_kept : (e : UpdateRefusal) (now next : Transcript T) (request : Request) → IsSendRefusal e Steps now request next → next.exchanges ≡ now.exchanges
  nothing_kept refusal.LinkFault now next request h = h.exchanges ∙ append-nil now.exchanges
  nothing_kept refusal.Memory now next request h = h
  nothing_kept refusal.RoundLimit now next request h = absurd h
  nothing_kept refusal.BadHeader now next request h = absurd h
  nothing_kept (refusal.SameLog id) now next request h = absurd h
  nothing_kept (refusal.Reply e) now next request h = absurd h

  -- the reply is refused
  pub unfit : (e : UpdateRefusal) (ids : List (List ℕ)) (now next : Transcript T) (step : UpdateStep) (request : Request) (reply : Reply) → IsUnfit e accepts said step reply → On now step → request_at a step ≡ Some request
      → IsKept Steps now (answered request reply) next → IsUpdateRefusal e ids accepts said limit a start Steps begun next
  unfit (refusal.Reply e) ids now next step request reply h w asked kept = record { step = step; before = now; under_way = w; last = exchange request reply; asked = asked; kept = kept; fault = h }
  unfit refusal.Memory ids now next step request reply h w asked kept = record {}
  unfit refusal.RoundLimit ids now next step request reply h w asked kept = absurd h
  unfit refusal.BadHeader ids now next step request reply h w asked kept = absurd h
  unfit (refusal.SameLog id) ids now next step request reply h w asked kept = absurd h
  unfit refusal.LinkFault ids now next step request reply h w asked kept = absurd h

  -- a turn that asks nothing, or is not answered, is refused
  pub unasked_turn : (e : UpdateRefusal) (ids : List (List ℕ)) (now next : Transcript T) (step : UpdateStep) → IsUnasked e Steps now a step next → On now step → IsRefusedTurn e ids accepts said limit a start Steps begun next
  unasked_turn e ids now next step (inl h) w = record {
    is_begun = begun_still now next step (ap (λ (t : Transcript T). t.exchanges) h.1) w;
    cause = subst (λ t. IsUpdateRefusal e ids accepts said limit a start Steps begun t) (sym h.1) (silent e ids now step h.0 w);
  }
  unasked_turn e ids now next step (inr h) w = record {
    is_begun = begun_still now next step (nothing_kept e now next h.request h.unanswered) w;
    cause = unanswered_is e ids now next step h.request h.unanswered w (h.asks accepts start w.0 w.1.stands) (h.asked accepts start w.0 w.1.stands);
  }

  -- so is one whose reply is
  pub unfit_turn : (e : UpdateRefusal) (ids : List (List ℕ)) (now next : Transcript T) (old new : UpdateStep) (place : ℕ) (x : Exchange) (d : Exchange) → On now old → Replied a Steps now old next place
      → x ≡ get_or next.exchanges place d → Advances accepts old x.reply new → Counts old new → ((a : Asker) (start : Start) (xs : List Exchange) → Stands accepts a start old xs → IsUnfit e accepts said old x.reply) → IsRefusedTurn e ids accepts said limit a start Steps begun next
  unfit_turn e ids now next old new place x d w answers here advances counts fault =
      let sent = answers accepts start w.0 w.1.stands in
      let is : x ≡ sent.said = here ∙ get_or_from_slice_get next.exchanges place sent.said d sent.there in
      let asked : request_at a old ≡ Some x.request = sent.asked ∙ ap (λ (y : Exchange). Some y.request) (sym is) in
      let kept : IsKept Steps now (answered x.request x.reply) next = subst (λ (y : Exchange). IsKept Steps now (answered y.request y.reply) next) (sym is) sent.kept in
      record {
        is_begun = begun_by next new (goes_on now next old new x.request x.reply w asked kept advances counts);
        cause = unfit e ids now next old x.request x.reply (fault a start w.0 w.1.stands) w asked kept;
      }

  -- with a reply that fits an update goes on
  pub fit_turn : (now next : Transcript T) (old new : UpdateStep) (place : ℕ) (x : Exchange) (d : Exchange) → On now old → Replied a Steps now old next place
      → x ≡ get_or next.exchanges place d → Advances accepts old x.reply new → Counts old new → On next new
  fit_turn now next old new place x d w answers here advances counts =
      let sent = answers accepts start w.0 w.1.stands in
      let is : x ≡ sent.said = here ∙ get_or_from_slice_get next.exchanges place sent.said d sent.there in
      let asked : request_at a old ≡ Some x.request = sent.asked ∙ ap (λ (y : Exchange). Some y.request) (sym is) in
      let kept : IsKept Steps now (answered x.request x.reply) next = subst (λ (y : Exchange). IsKept Steps now (answered y.request y.reply) next) (sym is) sent.kept in
      goes_on now next old new x.request x.reply w asked kept advances counts

  -- something was asked, and where the reply was taken, it asked for no decision
  pub asks_turn : (now next : Transcript T) (old : UpdateStep) (place : ℕ) → On now old → Replied a Steps now old next place
      → (request : Request) × (request_at a old ≡ Some request)
  asks_turn now next old place w answers = let sent = answers accepts start w.0 w.1.stands in (sent.said.request, sent.asked)

  pub taken_turn : (now next : Transcript T) (old new : UpdateStep) (place : ℕ) (x : Exchange) (d : Exchange) → (w : On now old) → Replied a Steps now old next place
      → x ≡ get_or next.exchanges place d → Advances accepts old x.reply new → (IsRefused new → ⊥) → AsksDecision old x.reply → ⊥
  taken_turn now next old new place x d w answers here advances taken =
      let sent = answers accepts start w.0 w.1.stands in
      let is : x ≡ sent.said = here ∙ get_or_from_slice_get next.exchanges place sent.said d sent.there in
      let asked : request_at a old ≡ Some x.request = sent.asked ∙ ap (λ (y : Exchange). Some y.request) (sym is) in
      no_decision accepts a start old new w.0 x (advances a start w.0 x.request asked w.1.stands) taken

abbrev pub answer : Bool → Result Bool UpdateRefusal
answer more = Ok more

module _ {T : Type 0} (accepts : Accepts) (start : Start) (Steps : T → Asked → T → Type 0) (begun : Transcript T) (limit : ℕ) where
  -- whoever asks, where it is the same
  pub by_same : (a b : Asker) (now : Transcript T) (step : UpdateStep) → a ≡ b → IsUnderWay accepts b start Steps begun now limit step → IsUnderWay accepts a start Steps begun now limit step
  by_same a b now step same w = subst (λ d. IsUnderWay accepts d start Steps begun now limit step) (sym same) w

  pub as_same : (a b : Asker) (now : Transcript T) (step : UpdateStep) → a ≡ b → IsUnderWay accepts a start Steps begun now limit step → IsUnderWay accepts b start Steps begun now limit step
  as_same a b now step same w = subst (λ d. IsUnderWay accepts d start Steps begun now limit step) same w

-- the request is the one that the step asks
pub both : (P : Request → Type 0) (o q : Option Request) → IfSome o P → o ≡ q → IfSome o (λ r. P r × (q ≡ Some r))
both P None q h is = h
both P (Some r) q h is = (h, sym is)
