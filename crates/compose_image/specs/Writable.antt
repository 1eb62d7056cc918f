-- Imports that can be written one behind the other.
use Rattle.std.specs.Prelude.{◌≡◌, ℕ, ◌<◌, Bool, true, List, [], ◌∷◌, length, None, Some, find, bytes_eq}
use Rattle.compose_order.specs.Needs.{LeftTree}
use Rattle.compose_writing.specs.Conditions.{KeepsForm, is_known}
use Rattle.compose_writing.specs.Scopes.{WrittenScope, knows}
use Rattle.compose_image.specs.Imports.{write_left}

-- An import has a name and the form of one, and mentions nothing but what is known, or what it brings itself, there or
-- earlier.
pub record IsWritable (l : LeftTree) (ms : List WrittenScope) : Type 0 where
  pub named : 0 < length l.name
  pub form : KeepsForm l.entity
  pub known : is_known (knows ms) l.entity ≡ true

-- each once those before it are written
abbrev pub AreWritable : List LeftTree → List WrittenScope → Type 0
AreWritable [] ms = Unit {0}
AreWritable (l ∷ ls) ms =
    IsWritable l ms × ((next : List WrittenScope) → write_left l ms ≡ Some next → AreWritable ls next)

-- no two of some imports have one name
abbrev pub is_of : List ℕ → LeftTree → Bool
is_of name l = bytes_eq name l.name

abbrev pub HaveOwnNames : List LeftTree → Type 0
HaveOwnNames [] = Unit {0}
HaveOwnNames (l ∷ ls) = (find (is_of l.name) ls ≡ None) × HaveOwnNames ls
