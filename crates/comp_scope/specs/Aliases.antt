-- Aliases: of what an instance or a core instance exports, and of what stands in a scope further out (Component Model,
-- Explainer.md, "Alias Definitions").
use Rattle.std.specs.Prelude.{ℕ, suc, Bool, true, ◌&&◌, not, List, [], ◌∷◌, ◌++◌, map, take, sum, Result, Ok, Err, ◌==◌, if◌then◌else◌}
use Rattle.std.specs.List.{list_any}
use Rattle.warg_values.specs.Reading.{◌>>=◌}
use Rattle.comp_format.specs.declared.types.CoreSort.{CoreSort}
use Rattle.comp_format.specs.declared.types.CoreSort.TheVariants as core
use Rattle.comp_format.specs.declared.types.Sort.{Sort}
use Rattle.comp_format.specs.declared.types.Sort.TheVariants as sort
use Rattle.comp_format.specs.declared.types.Alias.{Alias}
use Rattle.comp_format.specs.declared.types.Alias.TheVariants as alias
use Rattle.comp_format.specs.Spaces.{space_of}
use Rattle.comp_entity.specs.Entity.{EntityTree, IsType, IsInstance, IsOwnModule, Entries}
use Rattle.comp_entity.specs.Names.{changing, deeper, entity_by, mentions_resource}
use Rattle.comp_entity.specs.Fits.{under}
use Rattle.comp_entity.specs.Bounds.{ShapeFault, Index, Bounds}
use Rattle.comp_scope.specs.Spaces.{Spaces, Standing, KnownCoreType, Unknown, item_or_fault, at_index, if_below, standing, added, with_core_type, sort_of}
use Rattle.comp_scope.specs.CoreScopes.{outer_core}

-- how many scopes of names a scope is: a component is one of what its imports bring, and within it one of what it makes
abbrev pub width : Spaces → ℕ
width s = if s.is_closed then 2 else 1

-- A scope further out, seen from within: its index spaces, how many scopes of names lie between, and whether a
-- component, or a type of components, is left on the way out.
pub record Outer : Type 0 where
  pub spaces : Spaces
  pub distance : ℕ
  pub leaves_component : Bool

-- `scopes` are the scopes that are open, from the innermost
abbrev pub outer_scope : List Spaces → ℕ → Result Outer ShapeFault
outer_scope scopes count = at_index scopes count >>= λ spaces. Ok (record {
  spaces = spaces;
  distance = sum (map width (take count scopes));
  leaves_component = list_any (λ s. s.is_closed) (take count scopes);
})

-- an entity of a scope so much further out, in the names of the scope within
abbrev pub from_outside : ℕ → EntityTree → EntityTree
from_outside distance e = entity_by (changing (deeper distance) (deeper distance)) 0 e

-- no type that mentions a resource leaves a component, one of the type's own scopes too
abbrev pub may_pass : Bool → EntityTree → Bool
may_pass leaves_component (IsType t) = not (leaves_component && mentions_resource t)
may_pass leaves_component _ = true

-- the core types of scopes
abbrev pub core_scopes : List Spaces → List (List KnownCoreType)
core_scopes scopes = map (λ s. s.core_types) scopes

-- an item of an outer scope, with its naming bit
unfoldable pub outer_item : Bounds → List Spaces → Spaces → Sort → ℕ → ℕ → Result Spaces ShapeFault
outer_item b around s kind count index = do
  outer ← outer_scope (s ∷ around) count
  e ← standing outer.spaces kind index
  if may_pass outer.leaves_component e.0 then added b s (from_outside outer.distance e.0) e.1 else Err Index

-- The same, or a core type of one. `around` are the scopes around, from the innermost.
unfoldable pub outer_alias : Bounds → List Spaces → Spaces → Sort → ℕ → ℕ → Result Spaces ShapeFault
outer_alias b around s (sort.Core core.Ty) count index =
    outer_core (core_scopes (s ∷ around)) count index >>= λ t. Ok (with_core_type s t)
outer_alias b around s kind count index = outer_item b around s kind count index

abbrev pub as_instance : Standing → Result Entries ShapeFault
as_instance (IsInstance es, named) = Ok es
as_instance _ = Err Index

-- an export of an instance, of its sort, with its naming bit
unfoldable pub export_alias : Bounds → Spaces → Sort → ℕ → List ℕ → Result Spaces ShapeFault
export_alias b s kind from name = do
  i ← at_index s.instances from
  es ← as_instance i
  e ← item_or_fault (under name es)
  if space_of (sort_of e.0) == space_of kind then added b s e.0 e.1 else Err Index

-- an export of a core instance, of which nothing is known
abbrev pub core_alias : Spaces → CoreSort → Spaces
core_alias s core.Func = record s { core = record s.core { funcs = suc s.core.funcs } }
core_alias s core.Table = record s { core = record s.core { tables = suc s.core.tables } }
core_alias s core.Memory = record s { core = record s.core { memories = suc s.core.memories } }
core_alias s core.Global = record s { core = record s.core { globals = suc s.core.globals } }
core_alias s core.Ty = with_core_type s Unknown
core_alias s core.Module = record s { modules = s.modules ++ (IsOwnModule, true) ∷ [] }
core_alias s core.Instance = record s { core = record s.core { instances = suc s.core.instances } }

unfoldable pub aliased : Bounds → List Spaces → Spaces → Alias → Result Spaces ShapeFault
aliased b around s (alias.Export kind from name) = export_alias b s kind from name
aliased b around s (alias.CoreExport kind from name) = if_below s.core.instances from (core_alias s kind)
aliased b around s (alias.Outer kind count index) = outer_alias b around s kind count index
