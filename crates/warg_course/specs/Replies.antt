-- The replies of an update, apart from what was asked, and links that give them.
use Rattle.std.specs.Prelude.{◌≡◌, List, [], ◌∷◌, ◌++◌, map}
use Rattle.warg_exchange.specs.declared.exchange.Exchange.{Exchange}
use Rattle.warg_exchange.specs.declared.exchange.Reply.{Reply}
use Rattle.warg_api.specs.Link.{Asked, answered}

-- a list is the front of another, or the whole of it
abbrev pub IsFront : {A : Type 0} → List A → List A → Type 0
IsFront {A = A} front whole = (rest : List A) × (whole ≡ front ++ rest)

-- the replies are those of these exchanges, in order, and more
pub record AreRepliesOf (xs : List Exchange) (replies : List Reply) : Type 0 where
  pub unused : List Reply
  pub are : replies ≡ map (λ x. x.reply) xs ++ unused

-- Asked the requests of these exchanges in turn, a link gives their replies, wherever it gives any.
unfoldable pub GivesReplies : {T : Type 0} → (T → Asked → T → Type 0) → T → List Exchange → Type 0
GivesReplies Steps now [] = Unit {0}
GivesReplies {T = T} Steps now (x ∷ xs) =
    (reply : Reply) (next : T) → Steps now (answered x.request reply) next
    → (reply ≡ x.reply) × GivesReplies Steps next xs
