-- Powers of 128, which bound numbers of so many bytes of seven bits.
use Rattle.std.proofs.Common.{◌≡◌, ℕ, zero, suc, ◌-◌, ◌*◌, ◌^◌, ◌<◌, ◌≤◌, lit≤, arith, ap, sym, ◌∙◌}
use Rattle.std.proofs.Math.Nat.{pow-succ'}

pub power_next : (n : ℕ) → 0 < n → 128 ^ n ≡ 128 * 128 ^ (n - 1)
power_next zero some = absurd (omega arith)
power_next (suc n) some = let same : suc n - 1 ≡ n = omega arith in pow-succ' 128 n ∙ ap (λ k. 128 * 128 ^ k) (sym same)

pub power_some : (n : ℕ) → 1 ≤ 128 ^ n
power_some zero = omega arith
power_some (suc n) = omega (arith, pow-succ' 128 n, power_some n)

pub power_bound : (n : ℕ) → n ≤ 4 → 128 ^ n ≤ 2 ^ 28
power_bound zero h = lit≤ tt
power_bound (suc zero) h = lit≤ tt
power_bound (suc (suc zero)) h = lit≤ tt
power_bound (suc (suc (suc zero))) h = lit≤ tt
power_bound (suc (suc (suc (suc zero)))) h = lit≤ tt
power_bound (suc (suc (suc (suc (suc n))))) h = absurd (omega arith)
