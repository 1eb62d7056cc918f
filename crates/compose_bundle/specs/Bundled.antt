-- Nested components in the place of imports (Component Model, Explainer.md, "Component Definitions" and "Import and Export
-- Definitions").
use Rattle.std.specs.Prelude.{◌≡◌, ℕ, List, map, Option, Some, None, option_map, bytes_eq}
use Rattle.std.specs.Borrow.{Bor}
use Rattle.comp_encoder.specs.Writing.{Entry, Single, component_text}
use Rattle.comp_format.specs.declared.types.TypeRef.{TypeRef}
use Rattle.comp_format.specs.declared.types.TypeRef.TheVariants as description
use Rattle.comp_format.specs.Fits.{IsComponent}
use Rattle.comp_format.specs.Items.{Component, Import, ImportTree, ItemTree}
use Rattle.comp_format.specs.Sections.{Reads}
use Rattle.indexmap.specs.IndexMap.{get}
use Rattle.std.specs.HashMap.{HashMap}

-- an item, or the content that stands in its place
abbrev pub in_place : ItemTree → Option (List ℕ) → ItemTree
in_place item (Some bytes) = Component bytes
in_place item None = item

-- an import of this description: that of a component under a name that has a content gives place to it
abbrev pub bundled_import : (List ℕ → Option (List ℕ)) → ImportTree → TypeRef → ItemTree
bundled_import content i (description.Component t) = in_place (Import i) (content i.name)
bundled_import content i ty = Import i

-- what stands for an item: every other item stays as it is, and nested components are not entered
abbrev pub bundled_item : (List ℕ → Option (List ℕ)) → ItemTree → ItemTree
bundled_item content (Import i) = bundled_import content i i.ty
bundled_item content item = item

-- Items in which each import of a component whose name has a content is replaced by the nested component that the content
-- is. The others stay, in order.
abbrev pub bundled : (List ℕ → Option (List ℕ)) → List ItemTree → List ItemTree
bundled content items = map (bundled_item content) items

-- what is added to a builder for items, one by one
abbrev pub singles : List ItemTree → List Entry
singles = map Single

-- The bytes are a component, and these are that component bundled: they have the bundled items, no other reading, and each
-- number in its shortest spelling.
pub record IsBundled (content : List ℕ → Option (List ℕ)) (bytes out : List ℕ) : Type 0 where
  pub items : List ItemTree
  pub read : Reads bytes items
  pub text : out ≡ component_text (singles (bundled content items))
  pub reads : Reads out (bundled content items)
  pub once : (others : List ItemTree) → Reads out others → others ≡ bundled content items

-- ---- contents under names

-- each content is the bytes of a component
abbrev pub AreComponents : (List ℕ → Option (List ℕ)) → Type 0
AreComponents content = (name bytes : List ℕ) → content name ≡ Some bytes → IsComponent bytes

-- what a map has under a name
abbrev pub content_in : {S : Type 0} → HashMap (List ℕ) (Bor (List ℕ)) S → List ℕ → Option (List ℕ)
content_in contents name = option_map (λ (lent : Bor (List ℕ)). lent.now) (get bytes_eq contents name)
