-- Bundles of compositions (Component Model, Explainer.md, "Component Definitions" and "Instance Definitions").
use Rattle.std.specs.Prelude.{◌≡◌, ℕ, false, true, List, Option, Some, None, Contains}
use Rattle.std.specs.List.{AllByRecursion}
use Rattle.comp_entity.specs.Entity.{EntityTree}
use Rattle.comp_format.specs.Items.{Import, ImportTree, ItemTree}
use Rattle.comp_format.specs.Sections.{Reads}
use Rattle.comp_scope.specs.Image.{image}
use Rattle.compose_check.specs.Checked.{IsInstanceOrder}
use Rattle.compose_check.specs.Composition.{ComponentTree, CompositionTree}
use Rattle.compose_image.specs.CompositionImage.{composition_image, is_component}
use Rattle.compose_image.specs.Imports.{used_components}

-- the name of a component has its bytes as its content
abbrev pub HasItsContent : (List ℕ → Option (List ℕ)) → ComponentTree → Type 0
HasItsContent content k = content k.name ≡ Some k.bytes

-- The components of which a composition makes instances have their bytes as contents, and no other name that these bytes
-- import has a content.
pub record AreContentsOf (c : CompositionTree) (content : List ℕ → Option (List ℕ)) (bytes : List ℕ) : Type 0 where
  pub components : AllByRecursion (HasItsContent content) (used_components c)
  pub no_others : (items : List ItemTree) (i : ImportTree) → Reads bytes items → Contains items (Import i)
      → is_component c false i.name ≡ false → content i.name ≡ None

-- The bytes have one reading, and its link image is that of a composition with its components defined and its instances in
-- this order.
pub record IsWholeBundle (c : CompositionTree) (export : Option ℕ) (order bytes : List ℕ) : Type 0 where
  pub in_order : IsInstanceOrder c order
  pub items : List ItemTree
  pub reads : Reads bytes items
  pub once : (others : List ItemTree) → Reads bytes others → others ≡ items
  pub image : (shown : List (List ℕ × EntityTree))
      → image (is_component c true) shown items ≡ Some (composition_image c true export order shown)
