-- Why an update may prove nothing, and a download give nothing, though no reply is at fault.
use Rattle.std.specs.Prelude.{◌≡◌, ◌<◌, ◌++◌, ◌∷◌, ℕ, List}
use Rattle.warg_exchange.specs.Requests.{Asker}
use Rattle.warg_request.specs.Asking.{CanAsk}
use Rattle.warg_exchange.specs.declared.exchange.Exchange.{Exchange}
use Rattle.warg_api.specs.Link.{Asked, unanswered, Exchanges}
use Rattle.warg_api.specs.declared.error.ClientError.{ClientError}
use Rattle.warg_api.specs.declared.error.ClientError.TheVariants as call
use Rattle.warg_api.specs.declared.error.Other.TheVariants as other
use Rattle.warg_page.specs.Steps.{IsTwice}
use Rattle.warg_update.specs.declared.error.UpdateError.TheVariants as error
use Rattle.warg_session.specs.Pages.{pages_asked}
use Rattle.warg_session.specs.declared.error.UpdateRefusal.{UpdateRefusal}
use Rattle.warg_session.specs.declared.error.UpdateRefusal.TheVariants as refusal

-- a link was asked the requests of the first of these exchanges, replied to each as it says, and gave no reply to the
-- request of the next
pub record IsUnanswered {T : Type 0} (Steps : T → Asked → T → Type 0) (xs : List Exchange) (old new : T) : Type 0 where
  pub done : List Exchange
  pub next : Exchange
  pub rest : List Exchange
  pub in_turn : xs ≡ done ++ next ∷ rest
  pub before : T
  pub passed : Exchanges Steps old done before
  pub failed : Steps before (unanswered next.request) new

-- An update that these exchanges would prove proves nothing: two packages have one log; more pages are among them than
-- may be asked for; the registry's name or the token is no value of a header; the link gave no reply; or for want of
-- memory, also where a reply is read. No reply is at fault
abbrev pub IsOwnRefusal : {T : Type 0} → UpdateRefusal → List (List ℕ) → ℕ → Asker → (T → Asked → T → Type 0)
    → List Exchange → T → T → Type 0
IsOwnRefusal (refusal.SameLog id) ids limit a Steps ys old new = IsTwice ids id
IsOwnRefusal refusal.RoundLimit ids limit a Steps ys old new = limit < pages_asked a ys
IsOwnRefusal refusal.BadHeader ids limit a Steps ys old new = CanAsk a → ⊥
IsOwnRefusal refusal.LinkFault ids limit a Steps ys old new = IsUnanswered Steps ys old new
IsOwnRefusal (refusal.Reply e) ids limit a Steps ys old new = e ≡ error.Memory
IsOwnRefusal refusal.Memory ids limit a Steps ys old new = Unit {0}

-- A download that these exchanges would make gives nothing: the registry's name or the token is no value of a header;
-- the link gave no reply; or for want of memory. No reply is at fault
abbrev pub IsOwnFault : {T : Type 0} → ClientError → Asker → (T → Asked → T → Type 0) → List Exchange → T → T → Type 0
IsOwnFault call.Memory a Steps ys old new = Unit {0}
IsOwnFault call.LinkFault a Steps ys old new = IsUnanswered Steps ys old new
IsOwnFault (call.Other other.BadHeader) a Steps ys old new = CanAsk a → ⊥
IsOwnFault e a Steps ys old new = ⊥
