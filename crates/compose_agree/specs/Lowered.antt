-- Names found by what they are in lower case.
use Rattle.std.specs.Prelude.{◌≡◌, ℕ, ◌<◌, true, List, Some, MatchOption, slice_get, bytes_eq, false}
use Rattle.std.specs.Str.{str_to_ascii_lowercase}
use Rattle.std.specs.BTreeMap.{BTreeMap, get}
use Rattle.std.specs.Cmp.Lexicographic.{slice_cmp}
use Rattle.std.specs.Ordering.{nat_cmp}
use Rattle.warg_values.specs.declared.text.Text.{Text}

-- none of the names before this number is this in lower case
abbrev pub NoneLowered : List ℕ → List (List ℕ) → ℕ → Type 0
NoneLowered lower names end = (i : ℕ) (a : List ℕ) → i < end → slice_get names i ≡ Some a → bytes_eq lower (str_to_ascii_lowercase a) ≡ false

-- the first of the names before this number that is this in lower case
pub record IsLowered (lower : List ℕ) (names : List (List ℕ)) (end place : ℕ) : Type 0 where
  pub name : List ℕ
  pub below : place < end
  pub there : slice_get names place ≡ Some name
  pub is : bytes_eq lower (str_to_ascii_lowercase name) ≡ true
  pub first : NoneLowered lower names place

abbrev pub FindsLowered : BTreeMap Text ℕ → List (List ℕ) → ℕ → Type 0
FindsLowered places names end =
    (lower : List ℕ) → MatchOption (get (slice_cmp nat_cmp) places lower) (NoneLowered lower names end) (IsLowered lower names end)
