-- What was written to an output so far.
use Rattle.std.specs.Prelude.{◌≡◌, ℕ, List, ◌++◌, take, Option, Some, IfSome}
use Rattle.warg_values.specs.Faults.{Schedule}

-- what a refused write may leave: a front of its bytes was written
abbrev pub PartlyAdded : List ℕ → List ℕ → List ℕ → Type 0
PartlyAdded old new bytes = (n : ℕ) × (new ≡ old ++ take n bytes)

-- The same, where the output is told: it goes on telling.
abbrev pub LeavesPartlyAdded : Option (List ℕ) → Option (List ℕ) → List ℕ → Type 0
LeavesPartlyAdded old new bytes = IfSome old (λ before. (after : List ℕ) × (new ≡ Some after) × PartlyAdded before after bytes)

-- what an output in memory holds
pub record OutHeld : Type 0 where
  pub bytes : List ℕ
  pub schedule : Schedule
