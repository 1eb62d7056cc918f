-- What a call asks of its link, and why it gives no value.
use Rattle.std.specs.Prelude.{◌≡◌, ◌⊎◌, Ok, Err}
use Rattle.serde_json.specs.Data.{Data}
use Rattle.warg_exchange.specs.declared.exchange.Request.{Request}
use Rattle.warg_exchange.specs.declared.exchange.Reply.{Reply}
use Rattle.warg_exchange.specs.declared.service.ServiceError.{ServiceError}
use Rattle.warg_exchange.specs.Body.{Meaning, Unexpected, NoHash}
use Rattle.warg_exchange.specs.Replies.{NoMeaning, Refused, says}
use Rattle.warg_exchange.specs.Requests.{Asker}
use Rattle.warg_api.specs.Link.{Asked, answered, unanswered}
use Rattle.warg_request.specs.Asking.{CanAsk}
use Rattle.warg_api.specs.declared.error.ClientError.{ClientError}
use Rattle.warg_api.specs.declared.error.ClientError.TheVariants as error
use Rattle.warg_api.specs.declared.error.Other.TheVariants as other

-- the link was asked this request alone, and its reply is of this kind
abbrev pub Asks : {T : Type 0} → (T → Asked → T → Type 0) → T → Request → T
    → (Reply → Type 0) → Type 0
Asks Steps old request new Is = (reply : Reply) × Steps old (answered request reply) new × Is reply

-- a reply that is read by f has no meaning, as this error tells it; or memory ran out
abbrev pub IsMeaningless : {Y : Type 0} → ClientError → Reply → (Data → Meaning Y) → Type 0
IsMeaningless (error.UnexpectedResponse status message) reply f =
    (reply.status ≡ status) × (says f reply ≡ Err (NoMeaning Unexpected))
IsMeaningless (error.Hash text) reply f = says f reply ≡ Err (NoMeaning (NoHash text))
IsMeaningless error.Memory reply f = Unit {0}
IsMeaningless other reply f = ⊥

-- why a reply that is read by f gives no value: the registry answered an error in place of what was asked, as this call
-- tells it; or the reply has no meaning
abbrev pub IsReplyFault : {Y : Type 0} → (Reply → ServiceError → ClientError) → ClientError → Reply
    → (Data → Meaning Y) → Type 0
IsReplyFault told e reply f =
    ((x : ServiceError) × (says f reply ≡ Err (Refused x)) × (e ≡ told reply x)) ⊎ IsMeaningless e reply f

-- why a call that sends this request, whose reply is read by f, gives no value: there was no reply; or memory ran out
-- before the request was sent; or it was answered, and the reply gives none
abbrev pub IsAskFault : {T Y : Type 0} → (Reply → ServiceError → ClientError) → ClientError
    → (T → Asked → T → Type 0) → T → Request → T → (Data → Meaning Y) → Type 0
IsAskFault told e Steps old request new f =
    ((e ≡ error.LinkFault) × Steps old (unanswered request) new)
    ⊎ ((e ≡ error.Memory) × (new ≡ old))
    ⊎ Asks Steps old request new (λ reply. IsReplyFault told e reply f)

-- the same of a client's call, which sends nothing where the registry's name or the token can't be sent
abbrev pub IsCallFault : {T Y : Type 0} → Asker → (Reply → ServiceError → ClientError) → ClientError
    → (T → Asked → T → Type 0) → T → Request → T → (Data → Meaning Y) → Type 0
IsCallFault a told e Steps old request new f =
    ((e ≡ error.Other other.BadHeader) × (CanAsk a → ⊥) × (new ≡ old))
    ⊎ IsAskFault told e Steps old request new f

-- the link was asked this request alone, and the reply means such a value
abbrev pub Shows : {T Y : Type 0} → (T → Asked → T → Type 0) → T → Request → T → (Data → Meaning Y) → (Y → Type 0) → Type 0
Shows {Y = Y} Steps old request new f Is =
    Asks Steps old request new (λ reply. (meant : Y) × (says f reply ≡ Ok meant) × Is meant)
