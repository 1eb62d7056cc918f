-- The component of a number: what it imports and exports.
use Rattle.std.specs.Prelude.{ℕ, ◌+◌, List, Result, Ok, Err, if◌then◌else◌}
use Rattle.comp_entity.specs.Bounds.{ShapeFault, TooBig, Bounds, is_within, entries_nodes}
use Rattle.comp_entity.specs.Entity.{IsComponent, ShapeTree}
use Rattle.comp_entity.specs.Views.{Sides}
use Rattle.comp_scope.specs.Shape.{listed}
use Rattle.comp_table.specs.Plain.{plain_entity}
use Rattle.comp_table.specs.Shown.{SidesAreShown}
use Rattle.comp_table.specs.Trees.{PlainTree, Stands}
use Rattle.comp_view.specs.Fields.{EntriesHaveFields}

-- the number stands for a component of these imports and exports
abbrev pub StandAt : List PlainTree → ℕ → Sides → Type 0
StandAt table number c = Stands table number (plain_entity (IsComponent c.imports c.exports))

-- they can lie in memory
pub record LieAt (table : List PlainTree) (number : ℕ) (c : Sides) : Type 0 where
  pub stands : StandAt table number c
  pub imports_have_fields : EntriesHaveFields c.imports
  pub exports_have_fields : EntriesHaveFields c.exports
  pub shown : SidesAreShown c

-- the bound of a shape
abbrev pub checked_size : Bounds → Sides → Result (Unit {0}) ShapeFault
checked_size b c = if is_within b.nodes (entries_nodes c.imports + entries_nodes c.exports) then Ok tt else Err TooBig

-- imports and exports as a shape lists them
abbrev pub listed_sides : Sides → ShapeTree
listed_sides c = record { imports = listed c.imports; exports = listed c.exports }
