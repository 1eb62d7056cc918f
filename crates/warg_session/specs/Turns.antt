-- One turn of an update over a link: the request that is asked next, its reply, and what is refused on the way.
use Rattle.std.specs.Prelude.{◌≡◌, ◌⊎◌, ℕ, Bool, List, Some, slice_get}
use Rattle.warg_log.specs.Rules.{Accepts}
use Rattle.warg_exchange.specs.declared.exchange.Exchange.{Exchange}
use Rattle.warg_exchange.specs.declared.exchange.Reply.{Reply}
use Rattle.warg_exchange.specs.declared.exchange.Request.{Request}
use Rattle.warg_exchange.specs.Requests.{Asker}
use Rattle.warg_request.specs.Asking.{CanAsk}
use Rattle.warg_api.specs.Link.{Asked, answered, unanswered}
use Rattle.warg_update.specs.Standing.{Stands, IsAtLimit, request_at}
use Rattle.warg_update.specs.Proved.{Start, Asks}
use Rattle.warg_update.specs.FeedFaults.{IsFeedFault}
use Rattle.warg_update.specs.declared.step.UpdateStep.{UpdateStep}
use Rattle.warg_session.specs.Recording.{Transcript, IsKept}
use Rattle.warg_session.specs.declared.error.UpdateRefusal.{UpdateRefusal}
use Rattle.warg_session.specs.declared.error.UpdateRefusal.TheVariants as refusal

-- why nothing is asked next
abbrev pub IsSilent : UpdateRefusal → Asker → UpdateStep → Type 0
IsSilent refusal.RoundLimit a step = IsAtLimit step
IsSilent refusal.BadHeader a step = CanAsk a → ⊥
IsSilent refusal.Memory a step = Unit {0}
IsSilent other a step = ⊥

-- why a request that is sent has no reply
abbrev pub IsSendRefusal : {T : Type 0} → UpdateRefusal → (T → Asked → T → Type 0) → Transcript T → Request
    → Transcript T → Type 0
IsSendRefusal refusal.LinkFault Steps old request new = IsKept Steps old (unanswered request) new
IsSendRefusal refusal.Memory Steps old request new = new.exchanges ≡ old.exchanges
IsSendRefusal other Steps old request new = ⊥

-- the request that the step asks next was sent, and its exchange is kept at this place
pub record IsAnswered {T : Type 0} (Steps : T → Asked → T → Type 0) (old : Transcript T) (a : Asker) (step : UpdateStep)
    (place : ℕ) (new : Transcript T) : Type 0 where
  pub said : Exchange
  pub asked : request_at a step ≡ Some said.request
  pub there : slice_get new.exchanges place ≡ Some said
  pub kept : IsKept Steps old (answered said.request said.reply) new

-- nothing is asked next, for this reason, or no reply came to the request that was
pub record IsUnsaid {T : Type 0} (e : UpdateRefusal) (Steps : T → Asked → T → Type 0) (old : Transcript T) (a : Asker)
    (step : UpdateStep) (new : Transcript T) : Type 0 where
  pub request : Request
  pub asks : (accepts : Accepts) (start : Start) (xs : List Exchange) → Stands accepts a start step xs
      → Asks a start xs request
  pub asked : (accepts : Accepts) (start : Start) (xs : List Exchange) → Stands accepts a start step xs
      → request_at a step ≡ Some request
  pub unanswered : IsSendRefusal e Steps old request new

abbrev pub IsUnasked : {T : Type 0} → UpdateRefusal → (T → Asked → T → Type 0) → Transcript T → Asker → UpdateStep
    → Transcript T → Type 0
IsUnasked e Steps old a step new = (IsSilent e a step × (new ≡ old)) ⊎ IsUnsaid e Steps old a step new

-- why the reply is refused, by what may be said where a decision is asked
abbrev pub IsUnfit : UpdateRefusal → Accepts → (Bool → Bool) → UpdateStep → Reply → Type 0
IsUnfit (refusal.Reply e) accepts said step reply = IsFeedFault e accepts said step reply
IsUnfit refusal.Memory accepts said step reply = Unit {0}
IsUnfit other accepts said step reply = ⊥
