-- Bytes that are a component with a shape, and bytes that are one without.
use Rattle.std.specs.Prelude.{◌≡◌, ℕ, zero, suc, true, List, [], Result, Ok, Err}
use Rattle.comp_entity.specs.Bounds.{ShapeFault, bounded}
use Rattle.comp_entity.specs.Entity.{ShapeTree}
use Rattle.comp_reader.specs.Places.{StandsAt}
use Rattle.comp_reader.specs.declared.places.ItemPlace.{ItemPlace}
use Rattle.comp_scope.specs.Shape.{Parts, nothing, then_part, HasParts, after_part, shape_within}
use Rattle.comp_scope.specs.Spaces.{Known, nothing_known}

-- The bytes are a component, whose parts have this shape within the bounds.
pub record HasShape (bytes : List ℕ) (s : ShapeTree) : Type 0 where
  pub parts : Parts
  pub has_parts : HasParts bytes parts
  pub shape_is : shape_within bounded parts ≡ Ok s

-- The bytes are a component, whose parts have this fault within the bounds.
pub record HasFault (bytes : List ℕ) (fault : ShapeFault) : Type 0 where
  pub parts : Parts
  pub has_parts : HasParts bytes parts
  pub fault_is : shape_within bounded parts ≡ Err fault

-- Behind those in front of it, which have none, the part of this number has this fault.
abbrev pub FirstFault : Known → ℕ → ShapeFault → Parts → Type 0
FirstFault k number fault nothing = ⊥
FirstFault k zero fault (then_part p ps) = after_part bounded [] k p ≡ Err fault
FirstFault k (suc number) fault (then_part p ps) =
    (next : Known) × (after_part bounded [] k p ≡ Ok next) × FirstFault next number fault ps

-- The bytes are a component, and the item that stands at this place is its first that has a fault, and has this one.
pub record HasFaultAt (bytes : List ℕ) (fault : ShapeFault) (at : ℕ) : Type 0 where
  pub parts : Parts
  pub has_parts : HasParts bytes parts
  pub number : ℕ
  pub first : FirstFault (nothing_known true) number fault parts
  pub place : ItemPlace
  pub stands : StandsAt number bytes place
  pub at_is : at ≡ place.item
