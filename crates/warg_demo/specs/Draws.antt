-- Numbers that are drawn, one after the other: a linear congruential generator (Knuth, The Art of Computer Programming,
-- volume 2, section 3.3.4, of MMIX) of which the high bits are taken.
use Rattle.std.specs.Prelude.{ℕ, ◌+◌, ◌*◌, ◌/◌, ◌%◌, ◌^◌}

-- what a draw makes of the generator's state
abbrev pub next : ℕ → ℕ
next state = (state * 6364136223846793005 + 1442695040888963407) % 2 ^ 64

-- the number below a bound that a state gives
abbrev pub drawn : ℕ → ℕ → ℕ
drawn bound state = state / 2 ^ 33 % bound
