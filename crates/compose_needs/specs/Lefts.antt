-- Which numbers stand for what left imports bring.
use Rattle.std.specs.Prelude.{ℕ, List, length, Option}
use Rattle.compose_left.specs.Origins.{import_at, table}
use Rattle.compose_left.specs.Wiring.{Wiring}

-- the left import of the origin of a number, where it is of one
abbrev pub Lefts : Type 0
Lefts = ℕ → Option (List ℕ)

abbrev pub lefts_of : Wiring → Lefts
lefts_of w = import_at (length w.shapes) (table w)
