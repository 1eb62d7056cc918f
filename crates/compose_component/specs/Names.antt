-- Where names stand in lists.
use Rattle.std.specs.Prelude.{◌≡◌, ℕ, suc, List, [], ◌∷◌, Option, Some, None, option_map, if◌then◌else◌, String}
use Rattle.std.specs.BTreeMap.{BTreeMap, get_by_text}
use Rattle.std.specs.Global.{Global}
use Rattle.std.specs.Str.{bytes_eq}

-- the place of the first of some names that is this one
abbrev pub name_place : List ℕ → List (List ℕ) → Option ℕ
name_place name [] = None
name_place name (n ∷ ns) = if bytes_eq name n then Some 0 else option_map suc (name_place name ns)

-- what a map finds under a name is where it stands first
abbrev pub FindsNames : BTreeMap (String Global) ℕ → List (List ℕ) → Type 0
FindsNames places names = (name : List ℕ) → get_by_text places name ≡ name_place name names
