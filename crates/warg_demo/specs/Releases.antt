-- How many releases a package of the demo world has.
use Rattle.std.specs.Prelude.{ℕ, ◌+◌, ◌-◌, ◌==◌, Bool, false, if◌then◌else◌}
use Rattle.warg_demo.specs.Draws.{next, drawn}

-- the generator's state, how many releases there are, and whether the last is yanked
pub record Releases : Type 0 where
  pub state : ℕ
  pub count : ℕ
  pub yanks_last : Bool

-- one to three; of several, the last is yanked on every fourth draw
abbrev pub releases_drawn : ℕ → Releases
releases_drawn old =
    let state = next old in
    let count = 1 + drawn 3 state in
    if count == 1 then record { state = state; count = count; yanks_last = false }
    else record { state = next state; count = count; yanks_last = drawn 4 (next state) == 0 }
