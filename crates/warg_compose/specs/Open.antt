-- What a plan leaves open.
use Rattle.std.specs.Prelude.{◌≡◌, ℕ, Bool, true, List, [], ◌∷◌, Option, Some, None}
use Rattle.std.specs.Option.{option_or}
use Rattle.warg_plan.specs.Walk.{Arg, Left, OfEntry, Entry}

abbrev pub if_open : List ℕ → Arg → Option (List ℕ)
if_open name Left = Some name
if_open name (OfEntry place) = None

-- the name of the first import of an entry that is left open
abbrev pub open_among : List (List ℕ × Arg) → Option (List ℕ)
open_among [] = None
open_among (a ∷ args) = option_or (if_open a.0 a.1) (open_among args)

-- the name of the first import that is left open, by entries in order and the imports of each
abbrev pub first_open : List Entry → Option (List ℕ)
first_open [] = None
first_open (e ∷ es) = option_or (open_among e.arguments) (first_open es)

-- where imports are disallowed, none is left open
abbrev pub IsAllowed : Bool → List Entry → Type 0
IsAllowed disallow es = disallow ≡ true → first_open es ≡ None
