-- What has at most one outcome: choices, and steps of which each leads on to one state.
use Rattle.std.proofs.Common.{◌≡◌, ◌<◌, ◌⊎◌, inl, inr, ℕ, suc, zero, Option, Some, None, MatchOption, sym, ap, ◌∙◌, subst, arith}
use Rattle.std.proofs.lemmas.Bool.{cases_order}
use Rattle.std.proofs.lemmas.Option.{same_Some}
use Rattle.compose_files.specs.Built.{AfterSteps}

-- no two things have a property
abbrev pub AtMostOne : {A : Type 0} → (A → Type 0) → Type 0
AtMostOne {A} P = (a b : A) → P a → P b → a ≡ b

pub one_found : {A : Type 0} (o : Option A) → AtMostOne (λ x. o ≡ Some x)
one_found o x y p q = same_Some x y (sym p ∙ q)

pub one_pair : {A B : Type 0} (x : A) (y : B) → AtMostOne (λ (r : A × B). (r.0 ≡ x) × (r.1 ≡ y))
one_pair x y a b p q = λ k. ((p.0 ∙ sym q.0) k, (p.1 ∙ sym q.1) k)

-- by what was found, or where nothing was
pub one_by : {A B : Type 0} (o : Option A) (P : B → Type 0) (Q : A → B → Type 0) → AtMostOne P → ((x : A) → AtMostOne (Q x)) → AtMostOne (λ b. MatchOption o (P b) (λ x. Q x b))
one_by None P Q none some = none
one_by (Some x) P Q none some = some x

-- by way of something that is one
pub one_through : {A B : Type 0} (P : A → Type 0) (Q : A → B → Type 0) → AtMostOne P → ((x : A) → AtMostOne (Q x)) → (x y : A) (a b : B) → P x → P y → Q x a → Q y b → a ≡ b
one_through P Q one each x y a b px py qa qb = each y a b (subst (λ z. Q z a) (one x y px py) qa) qb

module _ {S : Type 0} (Step : ℕ → S → S → Type 0) where
  -- a step past some number of steps is the next one of a state that is reached
  pub step_after : (start : S) (n m : ℕ) (end : S) → n < m → AfterSteps Step start m end → (old : S) × (new : S) × AfterSteps Step start n old × Step n old new
  step_after start n zero end less h = absurd (omega arith)
  step_after start n (suc m) end less h = by (cases_order n m) (λ below. step_after start n m h.0 below h.1)
    where
      by : (n ≡ m) ⊎ ((n < m) ⊎ (m < n)) → (n < m → (old : S) × (new : S) × AfterSteps Step start n old × Step n old new) → (old : S) × (new : S) × AfterSteps Step start n old × Step n old new
      by (inl same) later = (h.0, end, subst (λ k. AfterSteps Step start k h.0) (sym same) h.1, subst (λ k. Step k h.0 end) (sym same) h.2)
      by (inr (inl below)) later = later below
      by (inr (inr above)) later = absurd (omega arith)

  module _ (each : (n : ℕ) (old : S) → AtMostOne (Step n old)) where
    pub one_after : (start : S) (n : ℕ) → AtMostOne (AfterSteps Step start n)
    one_after start zero a b p q = p ∙ sym q
    one_after start (suc n) a b p q = each n q.0 a b (subst (λ x. Step n x a) (one_after start n p.0 q.0 p.1 q.1) p.2) q.2

    -- a state that tells after how many steps no other comes
    pub one_end : (count : S → ℕ) → ((n : ℕ) (old new : S) → Step n old new → n < count old) → (start : S) → AtMostOne (λ end. AfterSteps Step start (count end) end)
    one_end count goes_on start a b p q = by (cases_order (count a) (count b))
      where
        not_less : (x y : S) → AfterSteps Step start (count x) x → AfterSteps Step start (count y) y → count x < count y → ⊥
        not_less x y p q less =
            let step = step_after start (count x) (count y) y less q in
            let same : count step.0 ≡ count x = ap count (one_after start (count x) step.0 x step.2 p) in
            let more : count x < count step.0 = goes_on (count x) step.0 step.1 step.3 in
            omega arith

        by : (count a ≡ count b) ⊎ ((count a < count b) ⊎ (count b < count a)) → a ≡ b
        by (inl same) = one_after start (count b) a b (subst (λ n. AfterSteps Step start n a) same p) q
        by (inr (inl less)) = absurd (not_less a b p q less)
        by (inr (inr less)) = absurd (not_less b a q p less)
