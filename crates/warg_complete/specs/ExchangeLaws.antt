-- Exchanges, and then others.
use Rattle.std.proofs.Common.{List, [], ◌∷◌, ◌++◌, subst}
use Rattle.warg_exchange.specs.declared.exchange.Exchange.{Exchange}
use Rattle.warg_api.specs.Link.{Asked, Exchanges}

module _ {T : Type 0} (Steps : T → Asked → T → Type 0) where
  pub exchanges_both : (old mid new : T) (xs ys : List Exchange) → Exchanges Steps old xs mid
      → Exchanges Steps mid ys new → Exchanges Steps old (xs ++ ys) new
  unfolding Exchanges
  exchanges_both old mid new [] ys first later = subst (λ t. Exchanges Steps t ys new) first later
  exchanges_both old mid new (x ∷ xs) ys first later =
      (first.0, first.1, exchanges_both first.0 mid new xs ys first.2 later)
