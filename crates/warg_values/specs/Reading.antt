-- Reading as a function on lists: it gives what was read, or the first fault from left to right.
use Rattle.std.specs.Prelude.{Result, Ok, Err}

-- Goes on with what was read. A fault ends the reading.
infixl 10 ◌>>=◌
abbrev pub ◌>>=◌ : {A B F : Type 0} → Result A F → (A → Result B F) → Result B F
(Ok x) >>= f = f x
(Err fault) >>= f = Err fault
