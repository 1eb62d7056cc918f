-- Imports agree: which left imports do, the order in which they are written, and what exports may mention.
use Rattle.std.specs.Prelude.{◌≡◌, ◌⊎◌, ℕ, true, false, List, [], ◌∷◌, ◌++◌, length, map, flat_map, slice_get, take, unwrap_or, Some, option_to_list}
use Rattle.std.specs.List.{AllByRecursion}
use Rattle.comp_entity.specs.Entity.{EntityTree, IsInstance, Entries, no_entry, entry}
use Rattle.compose_agree.specs.LetterCase.{AreApart, IsFirstClash}
use Rattle.compose_agree.specs.Order.{IsOrder, IsStuck, all_of, is_ready}
use Rattle.compose_agree.specs.declared.letter_case.CaseClash.{CaseClash}
use Rattle.compose_needs.specs.Lefts.{Lefts}
use Rattle.compose_order.specs.Needs.{LeftTree, is_brought, needs, place_named}

abbrev pub Bytes : Type 0
Bytes = List ℕ

-- ---- letter case

abbrev pub name_of : LeftTree → List ℕ
name_of l = l.name

abbrev pub entry_names : Entries → List (List ℕ)
entry_names no_entry = []
entry_names (entry name e mark es) = name ∷ entry_names es

abbrev pub export_names : EntityTree → List (List ℕ)
export_names (IsInstance es) = entry_names es
export_names _ = []

-- no two names differ in letter case alone, of imports or of the exports of one
abbrev pub AreExportsApart : List LeftTree → Type 0
AreExportsApart ls = AllByRecursion (λ (l : LeftTree). AreApart (export_names l.entity)) ls

abbrev pub NoClash : List LeftTree → Type 0
NoClash ls = AreApart (map name_of ls) × AreExportsApart ls

-- the first name that differs from an earlier one in letter case alone, and that one
pub record IsNameClash (names : List Bytes) (earlier later : Bytes) : Type 0 where
  pub clash : CaseClash
  pub first : IsFirstClash names clash
  pub earlier_is : slice_get names clash.earlier ≡ Some earlier
  pub later_is : slice_get names clash.later ≡ Some later

-- two exports of the first import in which two differ so
pub record IsExportClash (ls : List LeftTree) (earlier later : Bytes) : Type 0 where
  pub before : List LeftTree
  pub import : LeftTree
  pub after : List LeftTree
  pub all : ls ≡ before ++ import ∷ after
  pub apart : AreExportsApart before
  pub clash : IsNameClash (export_names import.entity) earlier later

-- imports come first, and then the exports of each
abbrev pub IsCaseClash : List LeftTree → Bytes → Bytes → Type 0
IsCaseClash ls earlier later = IsNameClash (map name_of ls) earlier later ⊎ (AreApart (map name_of ls) × IsExportClash ls earlier later)

-- ---- needs

abbrev pub AllBrought : Lefts → List LeftTree → Type 0
AllBrought left ls = AllByRecursion (λ (l : LeftTree). is_brought left l ≡ true) ls

-- an import of this number has this name
pub record IsNamedAt (ls : List LeftTree) (number : ℕ) (name : Bytes) : Type 0 where
  pub import : LeftTree
  pub there : slice_get ls number ≡ Some import
  pub named : name ≡ import.name

-- the number of the first import that mentions what can't be had
pub record IsFirstUnbrought (left : Lefts) (ls : List LeftTree) (number : ℕ) : Type 0 where
  pub import : LeftTree
  pub there : slice_get ls number ≡ Some import
  pub brought : AllByRecursion (λ (l : LeftTree). is_brought left l ≡ true) (take number ls)
  pub unbrought : is_brought left import ≡ false

-- its name
pub record IsUnbrought (left : Lefts) (ls : List LeftTree) (name : Bytes) : Type 0 where
  pub number : ℕ
  pub first : IsFirstUnbrought left ls number
  pub named : IsNamedAt ls number name

-- ---- the order

-- the number of the import of a name; where there is none, how many there are
abbrev pub number_of : List LeftTree → Bytes → ℕ
number_of ls name = unwrap_or (place_named ls name) (length ls)

-- the numbers of what an import needs
abbrev pub numbers_of : List LeftTree → List Bytes → List ℕ
numbers_of ls names = map (number_of ls) names

abbrev pub numbers_needed : Lefts → List LeftTree → LeftTree → List ℕ
numbers_needed left ls l = numbers_of ls (needs left l)

abbrev pub all_needs : Lefts → List LeftTree → List (List ℕ)
all_needs left ls = map (numbers_needed left ls) ls

abbrev pub import_at_number : List LeftTree → ℕ → List LeftTree
import_at_number ls n = option_to_list (slice_get ls n)

-- the imports of some numbers
abbrev pub in_turn : List LeftTree → List ℕ → List LeftTree
in_turn ls ns = flat_map (import_at_number ls) ns

-- an order of the numbers of imports
pub record IsNumbered (left : Lefts) (ls : List LeftTree) (order : List ℕ) : Type 0 where
  pub brought : AllBrought left ls
  pub in_order : IsOrder (is_ready (all_needs left ls)) (all_of (all_needs left ls)) order

-- Imports that agree, as they are written: of those of which all that they need is written, always the one that is needed
-- first.
pub record AreOrdered (left : Lefts) (ls out : List LeftTree) : Type 0 where
  pub order : List ℕ
  pub numbered : IsNumbered left ls order
  pub written : out ≡ in_turn ls order

-- the name of the first import that has no place in the order, since what it needs comes in a circle or is not there
pub record HasNoPlace (left : Lefts) (ls : List LeftTree) (name : Bytes) : Type 0 where
  pub brought : AllBrought left ls
  pub number : ℕ
  pub stuck : IsStuck (is_ready (all_needs left ls)) (all_of (all_needs left ls)) number
  pub named : IsNamedAt ls number name
