-- What a recording keeps of one request.
use Rattle.std.proofs.Common.{◌≡◌, [], sym, ap, subst, ◌∙◌, inl, inr}
use Rattle.std.specs.Prelude.{◌⊎◌}
use Rattle.warg_exchange.specs.declared.exchange.Exchange.{Exchange}
use Rattle.warg_exchange.specs.declared.exchange.Request.{Request}
use Rattle.warg_exchange.specs.declared.exchange.Reply.{Reply}
use Rattle.warg_api.specs.Link.{Asked, answered}
use Rattle.warg_session.specs.Recording.{Transcript, IsKept, IsLost, IsRecorded, exchange}

-- some reply
pub any_reply : Reply
any_reply = record { status = 0; headers = []; body = [] }

module _ {T : Type 0} (Steps : T → Asked → T → Type 0) where
  -- the exchange that is kept is that of the request, and its reply is the one that is given
  pub is_recorded : (old new : Transcript T) (x : Exchange) (request copy : Request) (reply given : Reply) → copy ≡ request → exchange copy reply ≡ x → given ≡ x.reply
      → IsKept Steps old (answered copy reply) new → IsRecorded Steps old (answered request given) new
  is_recorded old new x request copy reply given same one is kept =
      let of_reply : reply ≡ given = ap (λ (y : Exchange). y.reply) one ∙ sym is in
      inl (subst (λ r. IsKept Steps old (answered r given) new) same (subst (λ r. IsKept Steps old (answered copy r) new) of_reply kept))

  -- nothing changes, or a reply may be lost
  pub may_be_lost : (old new : Transcript T) (request : Request) → (new ≡ old) ⊎ IsLost old new → (new ≡ old) ⊎ ((reply : Reply) × IsRecorded Steps old (answered request reply) new)
  may_be_lost old new request (inl same) = inl same
  may_be_lost old new request (inr lost) = inr (any_reply, inr lost)
