-- Shapes of components, as they are read: names in them stand in order, and they mention nothing of scopes around them
-- (Component Model, Explainer.md, "Component Definitions").
use Rattle.std.specs.Prelude.{◌≡◌, []}
use Rattle.comp_entity.specs.Entity.{EntityTree, IsComponent, ShapeTree}
use Rattle.comp_entity.specs.Views.{entries_of}
use Rattle.compose_needs.specs.Mentioned.{mentioned}
use Rattle.compose_known.specs.InOrder.{AreInOrder}

-- a component of this shape
abbrev pub component_of : ShapeTree → EntityTree
component_of s = IsComponent (entries_of s.imports) (entries_of s.exports)

pub record IsWhole (s : ShapeTree) : Type 0 where
  pub imports : AreInOrder (entries_of s.imports)
  pub exports : AreInOrder (entries_of s.exports)
  pub nothing_around : mentioned (component_of s) ≡ []
