-- Which packages of the demo world need which.
use Rattle.std.specs.Prelude.{ℕ, zero, suc, ◌+◌, ◌==◌, Bool, List, [], ◌∷◌, ◌++◌, map, filter, if◌then◌else◌}
use Rattle.warg_demo.specs.Draws.{next, drawn}

-- the generator's state, and pairs of a package and one that it needs
pub record Needs : Type 0 where
  pub state : ℕ
  pub pairs : List (ℕ × ℕ)

-- the same with a pair behind the others, and the state behind its draw
abbrev pub with_need : ℕ → Needs → ℕ → ℕ → Needs
with_need state needs user needed = record { state = state; pairs = needs.pairs ++ (user, needed) ∷ [] }

-- A second package may need this one too, where it is another one.
abbrev pub with_second : ℕ → ℕ → Needs → Needs
with_second first needed needs =
    let state = next needs.state in
    let second = drawn needed state in
    if second == first then record needs { state = state } else with_need state needs second needed

-- An earlier package needs this one, and on every second draw perhaps another one does too.
abbrev pub with_package : ℕ → Needs → Needs
with_package needed needs =
    let first_state = next needs.state in
    let first = drawn needed first_state in
    let coin_state = next first_state in
    let more = with_need coin_state needs first needed in
    if drawn 2 coin_state == 0 then with_second first needed more else more

-- the needs of the package 0, and of so many behind it
abbrev pub needs_among : ℕ → ℕ → Needs
needs_among seed zero = record { state = seed; pairs = [] }
needs_among seed (suc more) = with_package (suc more) (needs_among seed more)

-- what a package needs, by some pairs
abbrev pub is_of : ℕ → ℕ × ℕ → Bool
is_of user pair = pair.0 == user

abbrev pub needs_of : ℕ → List (ℕ × ℕ) → List ℕ
needs_of user pairs = map (λ pair. pair.1) (filter (is_of user) pairs)
