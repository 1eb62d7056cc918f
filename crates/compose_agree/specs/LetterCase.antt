-- Names that differ in the case of ASCII letters alone (Component Model, Explainer.md, "Name Uniqueness").
use Rattle.std.specs.Prelude.{◌≡◌, ℕ, ◌<◌, Bool, true, false, List, length, Some, slice_get}
use Rattle.std.specs.Str.{str_eq_ignore_ascii_case}
use Rattle.compose_agree.specs.declared.letter_case.CaseClash.{CaseClash}

-- whether a name is an earlier one, but for the case of letters
abbrev pub is_like : List ℕ → List ℕ → Bool
is_like = str_eq_ignore_ascii_case

-- none of the names before this number is like one of this name
abbrev pub NoneLike : List ℕ → List (List ℕ) → ℕ → Type 0
NoneLike name names end = (i : ℕ) (a : List ℕ) → i < end → slice_get names i ≡ Some a → is_like name a ≡ false

-- of the names before this number none is like an earlier one
abbrev pub ApartBelow : List (List ℕ) → ℕ → Type 0
ApartBelow names end = (j : ℕ) (b : List ℕ) → j < end → slice_get names j ≡ Some b → NoneLike b names j

abbrev pub AreApart : List (List ℕ) → Type 0
AreApart names = ApartBelow names (length names)

-- the first name that is like an earlier one, and the first that it is like
pub record IsFirstClash (names : List (List ℕ)) (c : CaseClash) : Type 0 where
  pub name : List ℕ
  pub like : List ℕ
  pub later : slice_get names c.later ≡ Some name
  pub earlier : slice_get names c.earlier ≡ Some like
  pub in_order : c.earlier < c.later
  pub alike : is_like name like ≡ true
  pub first : ApartBelow names c.later
  pub none : NoneLike name names c.earlier
