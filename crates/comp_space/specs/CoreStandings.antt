-- Core types and scopes of core types, by numbers of a table.
use Rattle.std.specs.Prelude.{ℕ, ◌<◌, List, map, length, Result}
use Rattle.std.specs.List.{AllByRecursion}
use Rattle.warg_values.specs.Reading.{◌>>=◌}
use Rattle.comp_entity.specs.Bounds.{ShapeFault}
use Rattle.comp_scope.specs.CoreScopes as scope
use Rattle.comp_scope.specs.Spaces.{KnownCoreType, OfItem, OfModules, Unknown, at_index}
use Rattle.comp_space.specs.declared.core_types.CoreStanding.{CoreStanding}
use Rattle.comp_space.specs.declared.core_types.CoreStanding.TheVariants as by_number
use Rattle.comp_space.specs.declared.core_types.ModuleScope.{ModuleScope}
use Rattle.comp_space.specs.Standings.{Pairwise}
use Rattle.comp_table.specs.Plain.{plain_core, plain_module, plain_import, plain_export}
use Rattle.comp_table.specs.Trees.{PlainTree, Stands, AllStand, IsBelow}

-- the number stands for this core type
abbrev pub ShowsCore : List PlainTree → CoreStanding → KnownCoreType → Type 0
ShowsCore table (by_number.OfItem n) (OfItem t) = Stands table n (plain_core t)
ShowsCore table (by_number.OfModules n) (OfModules m) = Stands table n (plain_module m)
ShowsCore table by_number.Unknown Unknown = Unit {0}
ShowsCore table _ _ = ⊥

-- the core types of a scope, and those of scopes within each other
abbrev pub AllShowCore : List PlainTree → List CoreStanding → List KnownCoreType → Type 0
AllShowCore table types known = Pairwise (ShowsCore table) types known

abbrev pub ScopesShow : List PlainTree → List (List CoreStanding) → List (List KnownCoreType) → Type 0
ScopesShow table scopes known = Pairwise (AllShowCore table) scopes known

-- the core type of an index of the scope that is so many scopes further out
abbrev pub standing_out : List (List CoreStanding) → ℕ → ℕ → Result CoreStanding ShapeFault
standing_out scopes count index = at_index scopes count >>= λ types. at_index types index

-- the number, where there is one, is below this
abbrev pub IsCoreBelow : ℕ → CoreStanding → Type 0
IsCoreBelow k (by_number.OfItem n) = n < k
IsCoreBelow k (by_number.OfModules n) = n < k
IsCoreBelow k by_number.Unknown = Unit {0}

-- each number stands for something
abbrev pub CoresAreThere : List PlainTree → List CoreStanding → Type 0
CoresAreThere table types = AllByRecursion (IsCoreBelow (length table)) types

abbrev pub ScopesAreThere : List PlainTree → List (List CoreStanding) → Type 0
ScopesAreThere table scopes = AllByRecursion (CoresAreThere table) scopes

-- what a type of core modules has so far
pub record ShowsModule (table : List PlainTree) (part : ModuleScope) (known : scope.ModuleScope) : Type 0 where
  pub types : AllShowCore table part.types.items known.types
  pub imports : AllStand table part.imports.items (map plain_import known.imports)
  pub exports : AllStand table part.exports.items (map plain_export known.exports)

pub record ModuleIsThere (table : List PlainTree) (part : ModuleScope) : Type 0 where
  pub types : CoresAreThere table part.types.items
  pub imports : IsBelow (length table) part.imports.items
  pub exports : IsBelow (length table) part.exports.items
