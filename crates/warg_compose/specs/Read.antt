-- Contents that are components.
use Rattle.std.specs.Prelude.{◌≡◌, ℕ, List, map}
use Rattle.comp_entity.specs.Entity.{EntityTree, ShapeTree}
use Rattle.comp_shape.specs.Shape.{HasShape}
use Rattle.warg_plan.specs.Walk.{Content}

-- the names of what a component imports or exports
abbrev pub names_in : List (List ℕ × EntityTree) → List (List ℕ)
names_in entities = map (λ e. e.0) entities

-- A content is a component, and its names are those of what the component imports and exports, in order.
pub record IsComponent (c : Content) : Type 0 where
  pub tree : ShapeTree
  pub has_shape : HasShape c.bytes tree
  pub imports : c.imports ≡ names_in tree.imports
  pub exports : c.exports ≡ names_in tree.exports
