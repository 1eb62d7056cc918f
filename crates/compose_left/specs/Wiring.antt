-- Instances and the wires between them.
use Rattle.std.specs.Prelude.{◌≡◌, ℕ, ◌<◌, ◌≤◌, Bool, ◌&&◌, List, [], length, map, find, Option, Some, unwrap_or, slice_get, ◌==◌}
use Rattle.std.specs.Borrow.{Bor}
use Rattle.comp_entity.specs.Entity.{ShapeTree}
use Rattle.comp_entity.specs.Views.{shape_tree}
use Rattle.comp_entity.specs.declared.entity.Shape.{Shape}
use Rattle.compose_left.specs.declared.wiring.Wire.{Wire}

-- instances, each by its shape, in the order made, and the wires between them
pub record Wiring : Type 0 where
  pub shapes : List ShapeTree
  pub wires : List Wire

-- a shape that is lent, and several
abbrev pub lent_shape : Bor Shape → ShapeTree
lent_shape s = shape_tree s.now

abbrev pub shapes_of : List (Bor Shape) → List ShapeTree
shapes_of shapes = map lent_shape shapes

abbrev pub no_shape : ShapeTree
no_shape = record { imports = []; exports = [] }

abbrev pub shape_at : List ShapeTree → ℕ → ShapeTree
shape_at shapes i = unwrap_or (slice_get shapes i) no_shape

abbrev pub is_into : ℕ → ℕ → Wire → Bool
is_into target import wire = (wire.target == target) && (wire.import == import)

-- the wire into an import, where there is one
abbrev pub wire_into : List Wire → ℕ → ℕ → Option Wire
wire_into wires target import = find (is_into target import) wires

-- The wires have no circle: each instance has a place behind those of the instances that it is given.
pub record HasNoCircle (w : Wiring) : Type 0 where
  pub place : ℕ → ℕ
  pub behind : (target import : ℕ) (wire : Wire) → wire_into w.wires target import ≡ Some wire → place wire.source < place target
  pub within : (i : ℕ) → place i ≤ length w.shapes

-- A wire comes from an instance that is made before the one that it goes to, which is there.
pub record IsForward (instances : ℕ) (w : Wire) : Type 0 where
  pub later : w.source < w.target
  pub there : w.target < instances
