-- Links that give replies: behind the first of them they give the rest, and an exchange that asks the same is the same.
use Rattle.std.proofs.Common.{◌≡◌, ◌++◌, ◌∷◌, [], List, refl, sym, subst}
use Rattle.warg_exchange.specs.declared.exchange.Exchange.{Exchange}
use Rattle.warg_exchange.specs.declared.exchange.Request.{Request}
use Rattle.warg_exchange.specs.declared.exchange.Reply.{Reply}
use Rattle.warg_api.specs.Link.{Asked, answered, Exchanges}
use Rattle.warg_course.specs.Replies.{GivesReplies}
use Rattle.warg_course.proofs.ReplyLaws.{exchange-same}

module _ {T : Type 0} (Steps : T → Asked → T → Type 0) where
  pub given-rest : (xs ys : List Exchange) (old new : T) → GivesReplies Steps old (xs ++ ys) → Exchanges Steps old xs new → GivesReplies Steps new ys
  unfolding GivesReplies Exchanges
  given-rest [] ys old new given same = subst (λ (t : T). GivesReplies Steps t ys) (sym same) given
  given-rest (x ∷ xs) ys old new given passed = given-rest xs ys passed.0 new (given x.reply passed.0 passed.1).1 passed.2

  pub given-first : (xs ys : List Exchange) (now : T) → GivesReplies Steps now (xs ++ ys) → GivesReplies Steps now xs
  unfolding GivesReplies
  given-first [] ys now given = tt
  given-first (x ∷ xs) ys now given = λ reply next step. let here = given reply next step in (here.0, given-first xs ys next here.1)

  -- the reply to the first request is that of the first exchange
  pub reply-given : (x : Exchange) (xs : List Exchange) (now next : T) (request : Request) (reply : Reply) → GivesReplies Steps now (x ∷ xs) → request ≡ x.request → Steps now (answered request reply) next
      → (reply ≡ x.reply) × GivesReplies Steps next xs
  unfolding GivesReplies
  reply-given x xs now next request reply given same step = given reply next (subst (λ (r : Request). Steps now (answered r reply) next) same step)

  -- an exchange that asks what the first one asks is the first one
  pub same-given : (x y : Exchange) (ys : List Exchange) (now next : T) → GivesReplies Steps now (y ∷ ys) → x.request ≡ y.request → Steps now (answered x.request x.reply) next → (x ≡ y) × GivesReplies Steps next ys
  same-given x y ys now next given same step =
      let came = reply-given y ys now next x.request x.reply given same step in
      (exchange-same x y same came.0, came.1)

  -- exchanges and more exchanges are told apart
  pub exchanges-apart : (xs ys : List Exchange) (old new : T) → Exchanges Steps old (xs ++ ys) new → (mid : T) × Exchanges Steps old xs mid × Exchanges Steps mid ys new
  unfolding Exchanges
  exchanges-apart [] ys old new passed = (old, refl, passed)
  exchanges-apart (x ∷ xs) ys old new passed =
      let rest = exchanges-apart xs ys passed.0 new passed.2 in
      (rest.0, (passed.0, passed.1, rest.1), rest.2)
