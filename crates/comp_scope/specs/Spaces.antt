-- What stands in the index spaces of a scope, and what the scope imports and exports (Component Model, Explainer.md,
-- "Index Spaces"). A component is a scope, and so is each type of components and each type of instances.
use Rattle.std.specs.Prelude.{ℕ, ◌+◌, Bool, true, false, ◌&&◌, List, [], ◌∷◌, ◌++◌, Option, Some, None, Result, Ok, Err, slice_get, nat_lt, if◌then◌else◌}
use Rattle.std.specs.List.{list_any}
use Rattle.std.specs.Str.{str_eq_ignore_ascii_case}
use Rattle.comp_format.specs.declared.types.CoreSort.TheVariants as core
use Rattle.comp_format.specs.declared.types.Sort.{Sort}
use Rattle.comp_format.specs.declared.types.Sort.TheVariants as sort
use Rattle.comp_entity.specs.declared.module.CoreShape.{CoreShape}
use Rattle.comp_entity.specs.declared.module.ModuleShape.{ModuleShape}
use Rattle.comp_entity.specs.Entity.{ValueTree, RecordOf, VariantOf, FlagsOf, EnumOf, Value, EntityTree, IsType, IsFunc, IsInstance, IsComponent, IsModule, IsOwnModule, Entries, no_entry, entry}
use Rattle.comp_entity.specs.Names.{Counts}
use Rattle.comp_entity.specs.Bounds.{ShapeFault, Index, Bounds, kept}

-- A core type: of a core item, of core modules, or one that a core instance exports, of which nothing is known.
pub data KnownCoreType : Type 0 where
  OfItem : CoreShape → KnownCoreType
  OfModules : ModuleShape → KnownCoreType
  Unknown : KnownCoreType

-- how many core items there are of the sorts of which nothing else is known
pub record CoreCounts : Type 0 where
  pub funcs : ℕ
  pub tables : ℕ
  pub memories : ℕ
  pub globals : ℕ
  pub instances : ℕ

-- What an index stands for: an entity, and a truth value. That of a value type, or of a type of functions, is whether
-- each of its parts has the naming bit. That of a resource is whether it was imported or exported. That of all else is
-- the naming bit itself.
abbrev pub Standing : Type 0
Standing = EntityTree × Bool

-- the index spaces of a scope
pub record Spaces : Type 0 where
  -- a component or a type of components: no type that mentions a resource leaves it or enters it by an outer alias
  pub is_closed : Bool
  pub core : CoreCounts
  pub core_types : List KnownCoreType
  pub modules : List Standing
  pub funcs : List Standing
  pub types : List Standing
  pub components : List Standing
  pub instances : List Standing
  -- how many resources, and how many places that named types, its imports bring, and it makes
  pub brought : Counts
  pub made : Counts

-- what is known of a scope: its index spaces, and beside these its imports and exports, in order
pub record Known : Type 0 where
  pub spaces : Spaces
  pub imports : List (List ℕ × Standing)
  pub exports : List (List ℕ × Standing)

abbrev pub no_counts : Counts
no_counts = record { resources = 0; places = 0 }

abbrev pub counts_sum : Counts → Counts → Counts
counts_sum a b = record { resources = a.resources + b.resources; places = a.places + b.places }

abbrev pub no_core : CoreCounts
no_core = record { funcs = 0; tables = 0; memories = 0; globals = 0; instances = 0 }

-- a scope at its begin
abbrev pub no_spaces : Bool → Spaces
no_spaces is_closed = record {
  is_closed = is_closed;
  core = no_core;
  core_types = [];
  modules = [];
  funcs = [];
  types = [];
  components = [];
  instances = [];
  brought = no_counts;
  made = no_counts;
}

abbrev pub nothing_known : Bool → Known
nothing_known is_closed = record { spaces = no_spaces is_closed; imports = []; exports = [] }

-- the item of an index, which must be there already
abbrev pub item_or_fault : {X : Type 0} → Option X → Result X ShapeFault
item_or_fault (Some x) = Ok x
item_or_fault None = Err Index

abbrev pub at_index : {X : Type 0} → List X → ℕ → Result X ShapeFault
at_index xs i = item_or_fault (slice_get xs i)

-- the same where nothing but the number of items is known
abbrev pub if_below : {X : Type 0} → ℕ → ℕ → X → Result X ShapeFault
if_below count i x = if nat_lt i count then Ok x else Err Index

-- whether a value type has the naming bit where its parts have it: a record, a variant, flags and an enum have it only
-- where a place named them
abbrev pub is_named : ValueTree → Bool
is_named (RecordOf None fields) = false
is_named (VariantOf None cases) = false
is_named (FlagsOf None labels) = false
is_named (EnumOf None labels) = false
is_named _ = true

abbrev pub entity_is_named : EntityTree → Bool
entity_is_named (IsType (Value t)) = is_named t
entity_is_named _ = true

-- the naming bit
abbrev pub has_bit : Standing → Bool
has_bit s = s.1 && entity_is_named s.0

-- what stands at an index of the space of a sort. Of the core sorts only modules may be named so.
abbrev pub standing : Spaces → Sort → ℕ → Result Standing ShapeFault
standing s (sort.Core core.Module) i = at_index s.modules i
standing s (sort.Core _) i = Err Index
standing s sort.Func i = at_index s.funcs i
standing s sort.Ty i = at_index s.types i
standing s sort.Component i = at_index s.components i
standing s sort.Instance i = at_index s.instances i

-- an entity behind the others of its space
abbrev pub placed : Spaces → EntityTree → Bool → Spaces
placed s (IsType t) named = record s { types = s.types ++ (IsType t, named) ∷ [] }
placed s (IsFunc f) named = record s { funcs = s.funcs ++ (IsFunc f, named) ∷ [] }
placed s (IsInstance es) named = record s { instances = s.instances ++ (IsInstance es, named) ∷ [] }
placed s (IsComponent is es) named = record s { components = s.components ++ (IsComponent is es, named) ∷ [] }
placed s (IsModule m) named = record s { modules = s.modules ++ (IsModule m, named) ∷ [] }
placed s IsOwnModule named = record s { modules = s.modules ++ (IsOwnModule, named) ∷ [] }

-- the same within bounds
unfoldable pub added : Bounds → Spaces → EntityTree → Bool → Result Spaces ShapeFault
added b s e named = kept b e (placed s e named)

abbrev pub with_core_type : Spaces → KnownCoreType → Spaces
with_core_type s t = record s { core_types = s.core_types ++ t ∷ [] }

-- a name of its own, letter case set aside
abbrev pub is_taken : {X : Type 0} → List ℕ → List (List ℕ × X) → Bool
is_taken name entries = list_any (λ e. str_eq_ignore_ascii_case name e.0) entries

abbrev pub if_new : {X Y : Type 0} → List ℕ → List (List ℕ × X) → Result Y ShapeFault → Result Y ShapeFault
if_new name entries then_so = if is_taken name entries then Err Index else then_so

-- imports or exports as entries, each with its truth value
abbrev pub entries_in : List (List ℕ × Standing) → Entries
entries_in [] = no_entry
entries_in (e ∷ es) = entry e.0 e.1.0 e.1.1 (entries_in es)

abbrev pub sort_of : EntityTree → Sort
sort_of (IsType t) = sort.Ty
sort_of (IsFunc f) = sort.Func
sort_of (IsInstance es) = sort.Instance
sort_of (IsComponent is es) = sort.Component
sort_of (IsModule m) = sort.Core core.Module
sort_of IsOwnModule = sort.Core core.Module
