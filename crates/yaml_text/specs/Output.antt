-- What becomes of an output that a text is written to.
use Rattle.std.specs.Prelude.{◌≡◌, List, ℕ, ◌++◌, Result, Ok, Err}

-- The output is what it was, and behind it a front of the text.
pub record HoldsFront (old text new : List ℕ) : Type 0 where
  pub front : List ℕ
  pub rest : List ℕ
  pub grown : new ≡ old ++ front
  pub is_front : front ++ rest ≡ text

-- The text stands behind what the output was, or a front of it where there was no memory.
abbrev pub Writes : {E : Type 0} → Result (Unit {0}) E → List ℕ → List ℕ → List ℕ → Type 0
Writes (Ok u) old text new = new ≡ old ++ text
Writes (Err e) old text new = HoldsFront old text new
