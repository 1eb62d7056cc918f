-- That two packages have one log.
use Rattle.std.specs.Prelude.{ℕ, List}
use Rattle.warg_page.specs.Steps.{IsTwice}
use Rattle.warg_page.specs.declared.ids.IdsError.{IdsError}
use Rattle.warg_page.specs.declared.ids.IdsError.TheVariants as error

-- this id is that of two packages
abbrev pub IsIdsFault : IdsError → List (List ℕ) → Type 0
IsIdsFault (error.SameLog id) ids = IsTwice ids id
IsIdsFault error.Memory ids = Unit {0}
