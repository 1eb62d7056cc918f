-- Bytes that are a component with a link image, and bytes that are one without.
use Rattle.std.specs.Prelude.{◌≡◌, ℕ, Bool, List, Some}
use Rattle.comp_entity.specs.Entity.{ShapeTree}
use Rattle.comp_format.specs.Items.{ItemTree}
use Rattle.comp_format.specs.Sections.{Reads}
use Rattle.comp_image.specs.Read as image
use Rattle.comp_reader.specs.Places.{StandsAt}
use Rattle.comp_reader.specs.declared.places.ItemPlace.{ItemPlace}
use Rattle.comp_scope.specs.Image.{Image, image}
use Rattle.comp_shape.specs.Shape.{HasShape}

-- The bytes are a component with a shape, and have this image where components are imported under such names.
pub record HasImage (is_component : List ℕ → Bool) (bytes : List ℕ) (i : Image) : Type 0 where
  pub items : List ItemTree
  pub reads : Reads bytes items
  pub tree : ShapeTree
  pub has_shape : HasShape bytes tree
  pub image_is : image is_component tree.imports items ≡ Some i

-- The bytes are a component with a shape, and the item that stands at this place is its first that has no part in an image.
pub record StopsAt (is_component : List ℕ → Bool) (bytes : List ℕ) (at : ℕ) : Type 0 where
  pub items : List ItemTree
  pub reads : Reads bytes items
  pub tree : ShapeTree
  pub has_shape : HasShape bytes tree
  pub number : ℕ
  pub first : image.StopsAt is_component tree.imports items number
  pub place : ItemPlace
  pub stands : StandsAt number bytes place
  pub at_is : at ≡ place.item
