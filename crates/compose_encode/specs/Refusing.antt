-- Why a composition that agrees is not written with its components imported.
use Rattle.std.specs.Prelude.{◌≡◌, ℕ, Bool, List, [], ◌∷◌, Option, Some, None, bytes_eq, option_and_then, slice_get, if◌then◌else◌}
use Rattle.std.specs.BTreeSet.{BTreeSet, contains}
use Rattle.std.specs.List.{list_any}
use Rattle.std.specs.Option.{option_or}
use Rattle.compose_left.specs.Merged.{name_cmp}
use Rattle.compose_needs.specs.Exports.{component_hides}
use Rattle.compose_order.specs.Needs.{LeftTree}
use Rattle.compose_check.specs.Composition.{ComponentTree, CompositionTree}
use Rattle.warg_values.specs.declared.text.Text.{Text}

-- the first of what is found for some numbers
abbrev pub first_of : (ℕ → Option (List ℕ)) → List ℕ → Option (List ℕ)
first_of f [] = None
first_of f (n ∷ ns) = option_or (f n) (first_of f ns)

-- the first import or export of the component of a number that mentions what can't be had
abbrev pub hidden_in : ComponentTree → Option (List ℕ)
hidden_in k = component_hides k.shape

abbrev pub hidden_at : CompositionTree → ℕ → Option (List ℕ)
hidden_at c number = option_and_then hidden_in (slice_get c.components number)

-- the name of the component of a number, where a left import has it
abbrev pub has_name : List LeftTree → List ℕ → Bool
has_name ls name = list_any (λ (l : LeftTree). bytes_eq name l.name) ls

abbrev pub name_left : List LeftTree → ComponentTree → Option (List ℕ)
name_left ls k = if has_name ls k.name then Some k.name else None

abbrev pub clash_at : CompositionTree → List LeftTree → ℕ → Option (List ℕ)
clash_at c ls number = option_and_then (name_left ls) (slice_get c.components number)

abbrev pub HoldsNames : BTreeSet Text → List LeftTree → Type 0
HoldsNames names ls = (name : List ℕ) → contains name_cmp names name ≡ has_name ls name

abbrev pub Lefts : Type 0
Lefts = List LeftTree
