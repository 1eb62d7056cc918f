-- A composition: components, instances of them in the order made, and the wires between the instances (Component Model,
-- Explainer.md, "Instance Definitions").
use Rattle.std.specs.Prelude.{◌≡◌, ℕ, ◌<◌, Bool, List, [], ◌∷◌, map, length, None, IfSome, filter, slice_get, ◌==◌}
use Rattle.std.specs.Borrow.{Bor}
use Rattle.std.specs.List.{AllByRecursion}
use Rattle.std.specs.Option.{option_map_or}
use Rattle.comp_entity.specs.Entity.{ShapeTree}
use Rattle.compose_component.specs.declared.component.Component.{Component}
use Rattle.compose_component.specs.Component.{name_of, bytes_of, shape_of}
use Rattle.compose_left.specs.declared.wiring.Wire.{Wire}
use Rattle.compose_left.specs.Wiring.{Wiring, no_shape, shape_at, wire_into}
use Rattle.compose_check.specs.declared.composition.Composition.{Composition}

-- a component by its name, its bytes, and what they import and export
pub record ComponentTree : Type 0 where
  pub name : List ℕ
  pub bytes : List ℕ
  pub shape : ShapeTree

-- instances have the numbers of their components; wires join the numbers of instances
pub record CompositionTree : Type 0 where
  pub components : List ComponentTree
  pub instances : List ℕ
  pub wires : List Wire

-- the component of a number
abbrev pub shape_numbered : List ComponentTree → ℕ → ShapeTree
shape_numbered cs n = option_map_or (λ (c : ComponentTree). c.shape) (slice_get cs n) no_shape

abbrev pub wiring : CompositionTree → Wiring
wiring c = record { shapes = map (shape_numbered c.components) c.instances; wires = c.wires }

-- no two wires go into one import
abbrev pub HaveOwnImports : List Wire → Type 0
HaveOwnImports [] = Unit {0}
HaveOwnImports (w ∷ ws) = (wire_into ws w.target w.import ≡ None) × HaveOwnImports ws

-- a wire joins instances that are there
pub record IsBetween (instances : ℕ) (w : Wire) : Type 0 where
  pub source : w.source < instances
  pub target : w.target < instances

-- the import that a wire goes into is there, and so is the export that it takes, where it does not take the whole
-- instance
pub record HasEnds (w : Wiring) (wire : Wire) : Type 0 where
  pub import : wire.import < length (shape_at w.shapes wire.target).imports
  pub export : IfSome wire.export (λ export. export < length (shape_at w.shapes wire.source).exports)

pub record IsComposition (c : CompositionTree) : Type 0 where
  pub made : AllByRecursion (λ n. n < length c.components) c.instances
  pub joined : AllByRecursion (IsBetween (length c.instances)) c.wires
  pub ends : AllByRecursion (HasEnds (wiring c)) c.wires
  pub apart : HaveOwnImports c.wires

-- ---- what instances are given

abbrev pub source_of : Wire → ℕ
source_of w = w.source

abbrev pub goes_to : ℕ → Wire → Bool
goes_to target w = w.target == target

-- the instances that one is given, in the order of its wires
abbrev pub sources_of : List Wire → ℕ → List ℕ
sources_of ws target = map source_of (filter (goes_to target) ws)

-- ---- as it lies in memory

abbrev pub component_tree : Bor Component → ComponentTree
component_tree c = record { name = name_of c.now; bytes = bytes_of c.now; shape = shape_of c.now }

abbrev pub composition_tree : Composition → CompositionTree
composition_tree c = record { components = map component_tree c.components.items; instances = c.instances.items; wires = c.wires.items }
