-- Why components are not bundled.
use Rattle.std.specs.Prelude.{◌≡◌, ◌≢◌, ◌≤◌, ◌+◌, ◌^◌, ◌⊎◌, ℕ, List, ◌∷◌, ◌++◌, length, Option, Some}
use Rattle.comp_encoder.specs.Writing.{IsTooLongAmong, item_sort, item_text, numbered, sections_of}
use Rattle.comp_format.specs.declared.types.Sort.{Sort}
use Rattle.comp_format.specs.Items.{ItemTree}
use Rattle.comp_format.specs.Sections.{Reads}
use Rattle.comp_shape.specs.Refusal.{IsUnread}
use Rattle.comp_shape.specs.declared.error.ShapeError.{ShapeError}
use Rattle.comp_shape.specs.declared.error.ShapeError.TheVariants as shape
use Rattle.compose_bundle.specs.Bundled.{bundled, singles}

-- why bytes are no component; want of memory is told otherwise
pub record IsBad (error : ShapeError) (bytes : List ℕ) : Type 0 where
  pub cause : IsUnread error bytes
  pub tells : error ≢ shape.Memory

-- a number of an item behind others: the length of its bytes, or how many items of its sort there are with it
abbrev pub IsOfItem : ℕ → List ItemTree → ItemTree → Type 0
IsOfItem n front item =
    (n ≡ length (item_text item)) ⊎ ((kind : Sort) × (item_sort item ≡ Some kind) × (n ≡ numbered kind front + 1))

-- the number is one of an item among these
pub record IsAmong (n : ℕ) (items : List ItemTree) : Type 0 where
  pub front : List ItemTree
  pub item : ItemTree
  pub behind : List ItemTree
  pub items_are : items ≡ front ++ item ∷ behind
  pub is : IsOfItem n front item

-- The number is one of the bundled items, or the number of items or the length of one of the sections in which they stand,
-- and can't be written.
pub record IsTooLarge (n : ℕ) (content : List ℕ → Option (List ℕ)) (bytes : List ℕ) : Type 0 where
  pub items : List ItemTree
  pub read : Reads bytes items
  pub large : 2 ^ 32 ≤ n
  pub among : IsAmong n (bundled content items) ⊎ IsTooLongAmong n (sections_of (singles (bundled content items)))
