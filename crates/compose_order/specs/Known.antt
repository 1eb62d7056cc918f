-- What sets and maps hold, as lists do.
use Rattle.std.specs.Prelude.{◌≡◌, ℕ, ◌<◌, ◌≤◌, Bool, true, List, [], map, find, Option, Some, None, is_some, nat_eq, option_map, slice_get, Vec}
use Rattle.std.specs.Global.{Global}
use Rattle.std.specs.List.{AllByRecursion, IsDistinct}
use Rattle.std.specs.BTreeMap.{BTreeMap, get}
use Rattle.std.specs.Cmp.Lexicographic.{slice_cmp}
use Rattle.std.specs.Ordering.{nat_cmp}
use Rattle.std.specs.declared.cmp.Ordering.{Ordering}
use Rattle.warg_values.specs.declared.text.Text.{Text}
use Rattle.comp_entity.specs.Places.{Path as Names}
use Rattle.comp_entity.specs.Views.{entity_tree}
use Rattle.compose_left.specs.declared.path.Path.{Path}
use Rattle.compose_left.specs.declared.spots.Spot.{Spot}
use Rattle.compose_left.specs.declared.spots.Thing.{Thing}
use Rattle.compose_left.specs.declared.merge.MergedImport.{MergedImport}
use Rattle.compose_left.specs.Merged.{calls, import_name, merged, name_cmp}
use Rattle.compose_left.specs.Wired.{thing_cmp}
use Rattle.compose_order.specs.declared.calls.Calls.{Calls}
use Rattle.compose_needs.specs.declared.leaves.Leaf.{Leaf}
use Rattle.compose_order.specs.declared.left.LeftImport.{LeftImport}
use Rattle.compose_order.specs.declared.known.Known.{Known}
use Rattle.compose_order.specs.declared.known.AllKnown.{AllKnown}
use Rattle.compose_needs.specs.Leaves.{leaves_at}
use Rattle.compose_order.specs.Agreed.{IsCaseClash, IsNameClash, IsExportClash}
use Rattle.compose_needs.specs.Seen.{Holds}
use Rattle.compose_order.specs.Needs.{LeftTree, called_at, thing_of, place_named}

abbrev pub Spots : Type 0
Spots = List Spot

abbrev pub NamePath : Type 0
NamePath = List (List ℕ)

abbrev pub Leaves : Type 0
Leaves = List Leaf

abbrev pub path_cmp : Names → Names → Ordering
path_cmp = slice_cmp (slice_cmp nat_cmp)

abbrev pub things_in : Option (Vec Thing Global) → List Thing
things_in None = []
things_in (Some things) = things.items

-- what is named at a path
abbrev pub things_at : BTreeMap Path (Vec Thing Global) → Names → List Thing
things_at found path = things_in (get path_cmp found path)

-- what those that need an import name there
pub record AreCalls (found : Calls) (calls : List Spot) : Type 0 where
  pub all : Holds found.all (map thing_of calls)
  pub paths : (path : Names) → things_at found.paths path ≡ called_at calls path

abbrev pub FindsImports : BTreeMap Text ℕ → List LeftTree → Type 0
FindsImports places ls = (name : List ℕ) → get name_cmp places name ≡ place_named ls name

-- left imports, as they were merged, and as they are written
abbrev pub merged_left : MergedImport → LeftTree
merged_left m = record { name = import_name m; entity = merged m; calls = calls m }

abbrev pub left_tree : LeftImport → LeftTree
left_tree l = record { name = l.name; entity = entity_tree l.entity; calls = l.calls.items }

-- two names, of which the first is needed first
abbrev pub IsNameClashOf : List (List ℕ) → List ℕ × List ℕ → Type 0
IsNameClashOf names c = IsNameClash names c.0 c.1

abbrev pub IsExportClashOf : List LeftTree → List ℕ × List ℕ → Type 0
IsExportClashOf ls c = IsExportClash ls c.0 c.1

abbrev pub IsCaseClashOf : List LeftTree → List ℕ × List ℕ → Type 0
IsCaseClashOf ls c = IsCaseClash ls c.0 c.1

-- a left import, with what is found of it
pub record IsKnown (k : Known) : Type 0 where
  pub calls : AreCalls k.calls k.import.now.calls.items
  pub leaves : k.leaves.items ≡ leaves_at (entity_tree k.import.now.entity)

abbrev pub AreEachKnown : AllKnown → Type 0
AreEachKnown k = AllByRecursion IsKnown k.list.items

abbrev pub known_left : Known → LeftTree
known_left k = left_tree k.import.now

pub record AreKnown (k : AllKnown) (ls : List LeftTree) : Type 0 where
  pub lefts : map known_left k.list.items ≡ ls
  pub each : AllByRecursion IsKnown k.list.items
  pub places : FindsImports k.places ls

abbrev pub Imports : Type 0
Imports = List LeftTree

-- each import that is there is that of its number
abbrev pub AreThere : BTreeMap ℕ LeftImport → List LeftTree → Type 0
AreThere slots ls = (n : ℕ) (l : LeftImport) → get nat_cmp slots n ≡ Some l → slice_get ls n ≡ Some (left_tree l)

abbrev pub IsHeld : BTreeMap ℕ LeftImport → ℕ → Type 0
IsHeld slots n = is_some (get nat_cmp slots n) ≡ true

-- those from one number on, up to another
abbrev pub HoldsBetween : BTreeMap ℕ LeftImport → ℕ → ℕ → Type 0
HoldsBetween slots first end = (n : ℕ) → first ≤ n → n < end → IsHeld slots n

-- numbers of so many imports, none of them twice
pub record AreNumbers (count : ℕ) (ns : List ℕ) : Type 0 where
  pub below : AllByRecursion (λ n. n < count) ns
  pub once : IsDistinct nat_eq ns
