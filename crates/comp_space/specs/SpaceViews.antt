-- The index spaces of a scope, by numbers of a table.
use Rattle.std.specs.Prelude.{◌≡◌, List}
use Rattle.comp_entity.specs.Names as names
use Rattle.comp_scope.specs.Spaces as scope
use Rattle.comp_scope.specs.Spaces.{Spaces}
use Rattle.comp_space.specs.CoreStandings.{AllShowCore, CoresAreThere}
use Rattle.comp_space.specs.declared.space.CoreCounts.{CoreCounts}
use Rattle.comp_space.specs.declared.space.Counts.{Counts}
use Rattle.comp_space.specs.declared.space.Space.{Space}
use Rattle.comp_space.specs.Standings.{AllShow, AreThere}
use Rattle.comp_table.specs.Trees.{PlainTree}

abbrev pub counts : Counts → names.Counts
counts c = record { resources = c.resources; places = c.places }

abbrev pub core_counts : CoreCounts → scope.CoreCounts
core_counts c = record { funcs = c.funcs; tables = c.tables; memories = c.memories; globals = c.globals; instances = c.instances }

-- the numbers of a scope's index spaces stand for these
pub record ShowsSpaces (table : List PlainTree) (space : Space) (s : Spaces) : Type 0 where
  pub is_closed : space.is_closed ≡ s.is_closed
  pub core : core_counts space.core ≡ s.core
  pub core_types : AllShowCore table space.core_types.items s.core_types
  pub modules : AllShow table space.modules.items s.modules
  pub funcs : AllShow table space.funcs.items s.funcs
  pub types : AllShow table space.types.items s.types
  pub components : AllShow table space.components.items s.components
  pub instances : AllShow table space.instances.items s.instances
  pub brought : counts space.brought ≡ s.brought
  pub made : counts space.made ≡ s.made

-- each number of a scope's index spaces stands for something
pub record SpaceIsThere (table : List PlainTree) (space : Space) : Type 0 where
  pub core_types : CoresAreThere table space.core_types.items
  pub modules : AreThere table space.modules.items
  pub funcs : AreThere table space.funcs.items
  pub types : AreThere table space.types.items
  pub components : AreThere table space.components.items
  pub instances : AreThere table space.instances.items

-- they stand for some index spaces
abbrev pub IsSpace : List PlainTree → Space → Type 0
IsSpace table space = (s : Spaces) × ShowsSpaces table space s
