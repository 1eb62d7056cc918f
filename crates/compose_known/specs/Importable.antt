-- Components whose imports can be written where they are left open, and components that can be imported.
use Rattle.std.specs.Prelude.{◌≡◌, ℕ, ◌<◌, List, length, None}
use Rattle.std.specs.List.{AllByRecursion}
use Rattle.comp_entity.specs.Entity.{EntityTree}
use Rattle.comp_entity.specs.Views.{entries_of}
use Rattle.compose_needs.specs.Exports.{component_hides}
use Rattle.compose_writing.specs.Conditions.{KeepsEntries}
use Rattle.compose_check.specs.Composition.{ComponentTree}
use Rattle.compose_origins.specs.Named.{HasOwnNames}
use Rattle.compose_known.specs.Placed.{HasPlaces}
use Rattle.compose_known.specs.Whole.{IsWhole}

-- the imports of a component have names and forms that can be written
abbrev pub KeepsImports : ComponentTree → Type 0
KeepsImports k = KeepsEntries (entries_of k.shape.imports)

-- In the imports of a component no two exports of an instance have one name, and each type has the name of its place.
pub record NamesImports (k : ComponentTree) : Type 0 where
  pub apart : AllByRecursion (λ (e : List ℕ × EntityTree). HasOwnNames e.1) k.shape.imports
  pub placed : AllByRecursion (λ (e : List ℕ × EntityTree). HasPlaces e.1) k.shape.imports

-- A component has a name, and mentions in its imports and exports nothing but what is imported or exported there or
-- earlier.
pub record IsImportable (k : ComponentTree) : Type 0 where
  pub named : 0 < length k.name
  pub imports : KeepsEntries (entries_of k.shape.imports)
  pub exports : KeepsEntries (entries_of k.shape.exports)
  pub whole : IsWhole k.shape
  pub hides_nothing : component_hides k.shape ≡ None
