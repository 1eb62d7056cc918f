-- The imports of a lock that stand for no release.
use Rattle.std.specs.Prelude.{ℕ, Bool, List, [], ◌∷◌, nat_eq, if◌then◌else◌}
use Rattle.std.specs.List.{flat_map, starts_with}
use Rattle.comp_format.specs.Items.{ItemTree, Import}
use Rattle.warg_names.specs.Import.{locked_mark}

-- a name begins as that of a release does
abbrev pub is_release : List ℕ → Bool
is_release name = starts_with nat_eq name locked_mark

abbrev pub open_in : ItemTree → List (List ℕ)
open_in (Import i) = if is_release i.name then [] else i.name ∷ []
open_in _ = []

-- the names of the imports among items that stand for no release, in order
abbrev pub open_names : List ItemTree → List (List ℕ)
open_names items = flat_map open_in items
