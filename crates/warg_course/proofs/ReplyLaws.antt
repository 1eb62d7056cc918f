-- What a reply says, and what exchanges are.
use Rattle.std.proofs.Common.{◌≡◌, ◌∷◌, [], List, Result, Ok, sym, ◌∙◌, ap}
use Rattle.serde_json.specs.Data.{Data}
use Rattle.warg_exchange.specs.declared.exchange.Exchange.{Exchange}
use Rattle.warg_exchange.specs.declared.exchange.Request.{Request}
use Rattle.warg_exchange.specs.declared.exchange.Reply.{Reply}
use Rattle.warg_exchange.specs.Body.{Meaning}
use Rattle.warg_exchange.specs.Replies.{says}

pub head-is : {A : Type 0} (x y : A) (xs ys : List A) → x ∷ xs ≡ y ∷ ys → x ≡ y
head-is x y xs ys e = cc e

pub tail-is : {A : Type 0} (x y : A) (xs ys : List A) → x ∷ xs ≡ y ∷ ys → xs ≡ ys
tail-is x y xs ys e = cc e

pub cons-none : {A : Type 0} (x : A) (xs : List A) → x ∷ xs ≡ [] → ⊥
cons-none x xs e = absurd cc

ok-is : {A E : Type 0} (x y : A) → ◌≡◌ {A = Result A E} (Ok x) (Ok y) → x ≡ y
ok-is x y e = cc e

-- a reply gives one value
pub one-value : {X : Type 0} (f : Data → Meaning X) (reply : Reply) (v w : X) → says f reply ≡ Ok v → says f reply ≡ Ok w → v ≡ w
one-value f reply v w is also = ok-is v w (sym is ∙ also)

-- exchanges with one request and one reply are one
pub exchange-same : (x y : Exchange) → x.request ≡ y.request → x.reply ≡ y.reply → x ≡ y
exchange-same x y asked came =
    ap (λ (r : Request). exchange r x.reply) asked ∙ ap (exchange y.request) came
  where
    exchange : Request → Reply → Exchange
    exchange request reply = record { request = request; reply = reply }
