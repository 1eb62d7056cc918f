-- The first wire that does not fit, as far as it was looked for.
use Rattle.std.specs.Prelude.{◌≡◌, ◌⊎◌, ℕ, zero, suc, ◌+◌, ◌<◌, ◌≤◌, Option, Some, None, MatchOption, refl}
use Rattle.std.proofs.Common.{sym, ap, subst, arith, inl, inr}
use Rattle.compose_left.specs.Wiring.{Wiring}
use Rattle.compose_fit.specs.declared.misfit.Misfit.{Misfit}
use Rattle.compose_fit.specs.Fit.{Comparison, loosely, in_place, FitsAt, EachFits, WiresFit, IsBefore, IsFirstMisfit, IsMisfit}
use Rattle.compose_fit.specs.Seen.{IsFirstInto}

below_next : (i n : ℕ) → i < n + 1 → (i < n) ⊎ (i ≡ n)
below_next zero zero lt = inr refl
below_next zero (suc n) lt = inl (omega arith)
below_next (suc i) zero lt = absurd (omega (arith, lt))
below_next (suc i) (suc n) lt = one (below_next i n (omega (arith, lt)))
  where
    one : (i < n) ⊎ (i ≡ n) → (suc i < suc n) ⊎ (suc i ≡ suc n)
    one (inl l) = inl (omega (arith, l))
    one (inr e) = inr (ap suc e)

either : (i n : ℕ) → (i < n) ⊎ (n ≤ i)
either zero zero = inr (omega arith)
either zero (suc n) = inl (omega arith)
either (suc i) zero = inr (omega arith)
either (suc i) (suc n) = one (either i n)
  where
    one : (i < n) ⊎ (n ≤ i) → (suc i < suc n) ⊎ (suc n ≤ suc i)
    one (inl l) = inl (omega (arith, l))
    one (inr l) = inr (omega (arith, l))

pub all_below : (P : ℕ → Type 0) (n : ℕ) → ((i : ℕ) → i < n → P i) → P n → (i : ℕ) → i < n + 1 → P i
all_below P n before here i lt = one (below_next i n lt)
  where
    one : (i < n) ⊎ (i ≡ n) → P i
    one (inl l) = before i l
    one (inr e) = subst P (sym e) here

pub all_of_them : (P : ℕ → Type 0) (n : ℕ) → ((i : ℕ) → i < n → P i) → ((i : ℕ) → n ≤ i → P i) → (i : ℕ) → P i
all_of_them P n below above i = one (either i n)
  where
    one : (i < n) ⊎ (n ≤ i) → P i
    one (inl l) = below i l
    one (inr l) = above i l

pub first_of_all : (c : Comparison) (w : Wiring) (target : ℕ) (m : Misfit) → IsFirstInto c w target m → ((t i : ℕ) → t < target → FitsAt c w t i) → IsFirstMisfit c w m
first_of_all c w target m f earlier = record { target = target; import = f.import; here = f.here; before = λ t i b. at t i b }
  where
    at : (t i : ℕ) → IsBefore t i target f.import → FitsAt c w t i
    at t i (inl l) = earlier t i l
    at t i (inr l) = subst (λ k. FitsAt c w k i) (sym l.0) (f.before i l.1)

-- what fits loosely, and what is found with origins in place
pub both_ways : (w : Wiring) (found : Option Misfit) → EachFits loosely w → MatchOption found (EachFits (in_place w) w) (IsFirstMisfit (in_place w) w) → MatchOption found (WiresFit w) (IsMisfit w)
both_ways w None loose h = record { loosely = loose; in_place = h }
both_ways w (Some m) loose h = inr (loose, h)
