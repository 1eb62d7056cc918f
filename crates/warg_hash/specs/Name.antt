-- Package names: two labels with a colon between them.
use Rattle.std.specs.Prelude.{◌≡◌, ℕ, ◌==◌, ◌&&◌, ◌||◌, nat_le, nat_lt, length, Bool, false, IsTrue, List, [], ◌∷◌, ◌++◌}
use Rattle.std.specs.List.{list_all, slice_split, before_first, after_first, position_or_len}

-- a lower-case ASCII letter
abbrev pub is_lower : ℕ → Bool
is_lower b = nat_le 97 b && nat_le b 122

-- a decimal digit
abbrev pub is_digit : ℕ → Bool
is_digit b = nat_le 48 b && nat_le b 57

-- a lower-case letter, and then lower-case letters and digits
abbrev pub is_word : List ℕ → Bool
is_word [] = false
is_word (b ∷ rest) = is_lower b && list_all (λ c. is_lower c || is_digit c) rest

-- words joined by hyphens: what stands between the hyphens is a word each
abbrev pub is_label : List ℕ → Bool
is_label text = list_all is_word (slice_split (λ b. b == 45) text)

abbrev pub is_colon : ℕ → Bool
is_colon b = b == 58

-- the text is these two labels with a colon between them
pub record IsNameOf (text namespace name : List ℕ) : Type 0 where
  pub joined : text ≡ namespace ++ 58 ∷ name
  pub namespace_is_label : IsTrue (is_label namespace)
  pub name_is_label : IsTrue (is_label name)

-- a package name
abbrev pub IsPackageName : List ℕ → Type 0
IsPackageName text = (namespace : List ℕ) × (name : List ℕ) × IsNameOf text namespace name

-- whether a text is one: what stands before the first colon and what stands after it are labels
abbrev pub is_package_name : List ℕ → Bool
is_package_name text = nat_lt (position_or_len is_colon text) (length text)
    && (is_label (before_first is_colon text) && is_label (after_first is_colon text))
