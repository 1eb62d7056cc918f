-- A search goes on with each lesson that is learnt.
use Rattle.std.proofs.Common.{◌≡◌, List, [], ◌∷◌, ◌++◌, refl, subst}
use Rattle.std.specs.Prelude.{fold}
use Rattle.warg_plan.specs.Walk.{Facts, Stop}
use Rattle.warg_assemble.specs.Session.{Wanted}
use Rattle.warg_search.specs.Search.{IsLearnt, AreLearnt}

module _ {T P : Type 0} (teaches : Facts → P → Facts) (w : Wanted) (Learns : T → Stop → P → T → Type 0) where
  -- before anything is learnt
  pub none_learnt : (f : Facts) (t : T) → AreLearnt teaches w Learns f t [] t
  unfolding AreLearnt
  none_learnt f t = refl

  -- one lesson more
  pub learnt_more : (f : Facts) (old mid new : T) (parts : List P) (p : P) → AreLearnt teaches w Learns f old parts mid → IsLearnt teaches w Learns (fold teaches f parts) mid p new → AreLearnt teaches w Learns f old (parts ++ p ∷ []) new
  unfolding AreLearnt
  learnt_more f old mid new [] p are one = (new, subst (λ t. IsLearnt teaches w Learns f t p new) are one, refl)
  learnt_more f old mid new (q ∷ parts) p are one = (are.0, are.1, learnt_more (teaches f q) are.0 mid new parts p are.2 one)

  pub learns_by : (f : Facts) (parts : List P) (p : P) → fold teaches f (parts ++ p ∷ []) ≡ teaches (fold teaches f parts) p
  learns_by f [] p = refl
  learns_by f (q ∷ parts) p = learns_by (teaches f q) parts p
