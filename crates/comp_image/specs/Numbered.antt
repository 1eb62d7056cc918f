-- What indices stand for, by index spaces that are kept apart.
use Rattle.std.specs.Prelude.{◌≡◌, ℕ, List, [], map, Option, Vec, slice_get, get_or}
use Rattle.std.specs.Global.{Global}
use Rattle.comp_format.specs.declared.types.Sort.{Sort}
use Rattle.comp_format.specs.Spaces.{space_of}
use Rattle.comp_scope.specs.Image as scope
use Rattle.comp_scope.specs.Image.{space}
use Rattle.comp_image.specs.declared.numbered.Indexed.{Indexed}
use Rattle.comp_image.specs.declared.numbered.Indexed.TheVariants as indexed

abbrev pub indexed_of : Indexed → scope.Indexed
indexed_of indexed.Own = scope.Own
indexed_of (indexed.Component n) = scope.OfComponent n
indexed_of (indexed.Made n) = scope.Made n
indexed_of (indexed.Part n name) = scope.PartOf n name.now
indexed_of (indexed.Left name) = scope.Left name.now

-- an item of a sort, with what it stands for
abbrev pub IsEntry : Type 0
IsEntry = Sort × scope.Indexed

-- what an index stands for among all items
abbrev pub indexed_in : List IsEntry → Sort → ℕ → Option scope.Indexed
indexed_in es kind index = slice_get (space kind es) index

-- what index spaces hold
abbrev pub items_of : List (Vec Indexed Global) → List (List Indexed)
items_of spaces = map (λ s. s.items) spaces

-- each index space stands at its number
abbrev pub NumberAll : List (List Indexed) → List IsEntry → Type 0
NumberAll spaces es = (kind : Sort) → map indexed_of (get_or spaces (space_of kind) []) ≡ space kind es
