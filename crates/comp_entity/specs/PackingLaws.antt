-- Names in one number.
use Rattle.std.specs.Prelude.{◌≡◌, ℕ, ◌+◌, ◌*◌, ◌/◌, ◌%◌}
use Rattle.std.proofs.Common.{arith}

pub name_packed : (n : ℕ) → n / 64 * 64 + n % 64 ≡ n
name_packed n = omega arith
