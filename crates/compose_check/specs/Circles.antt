-- Things that need themselves through others, by their numbers.
use Rattle.std.specs.Prelude.{◌≡◌, ℕ, ◌≤◌, true, List, [], ◌∷◌}
use Rattle.compose_agree.specs.Order.{has, needs_at}

-- A way from one thing to another: the first needs the first of these, each needs the next, and the last needs the end.
abbrev pub Leads : List (List ℕ) → ℕ → List ℕ → ℕ → Type 0
Leads needs n [] end = has (needs_at needs n) end ≡ true
Leads needs n (m ∷ ms) end = (has (needs_at needs n) m ≡ true) × Leads needs m ms end

-- some way
abbrev pub Reaches : List (List ℕ) → ℕ → ℕ → Type 0
Reaches needs n end = (between : List ℕ) × Leads needs n between end

-- a way from a thing to itself
abbrev pub IsOnCircle : List (List ℕ) → ℕ → Type 0
IsOnCircle needs n = Reaches needs n n

-- the last of those to which a way leads from themselves
pub record IsLastOnCircle (needs : List (List ℕ)) (n : ℕ) : Type 0 where
  pub on : IsOnCircle needs n
  pub last : (m : ℕ) → IsOnCircle needs m → m ≤ n
