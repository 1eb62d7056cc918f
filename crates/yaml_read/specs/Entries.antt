-- Entries of maps whose values are seen in another way.
use Rattle.std.proofs.Common.{ℕ, List}

abbrev pub seen_entry : {V S : Type 0} → (V → S) → List ℕ × V → List ℕ × S
seen_entry seen e = (e.0, seen e.1)
