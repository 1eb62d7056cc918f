-- Numbers in order.
use Rattle.std.specs.Prelude.{◌≡◌, ℕ, zero, suc, List, [], ◌∷◌, ◌++◌, length}

-- the numbers below one, in order
abbrev pub below : ℕ → List ℕ
below zero = []
below (suc k) = below k ++ k ∷ []

-- each number stands at its own place
abbrev pub AreInOrder : List ℕ → Type 0
AreInOrder ns = ns ≡ below (length ns)
