-- Which entity can be given where another one is asked for (Component Model, Explainer.md, "Type Checking"). Two rules
-- are narrower than there: a component, and each type, fits where it is equal, and limits of core modules are not
-- matched more widely.
use Rattle.std.specs.Prelude.{ℕ, Bool, true, false, ◌&&◌, List, [], ◌∷◌, ◌++◌, Option, Some, None, unwrap_or, ◌==◌, if◌then◌else◌}
use Rattle.std.specs.List.{list_any, list_all}
use Rattle.std.specs.Str.{bytes_eq}
use Rattle.std.specs.Cmp.Lexicographic.{pointwise}
use Rattle.std.specs.Option.{option_eq, option_map_or}
use Rattle.comp_format.specs.Types.{primitive_code}
use Rattle.comp_format.specs.CoreTypes.{core_value_code}
use Rattle.comp_format.specs.declared.core_types.CoreVal.{CoreVal}
use Rattle.comp_format.specs.declared.core_types.Limits.{Limits}
use Rattle.comp_entity.specs.declared.module.CoreShape.{CoreShape}
use Rattle.comp_entity.specs.declared.module.CoreShape.TheVariants as core
use Rattle.comp_entity.specs.declared.module.ModuleShape.{ModuleShape}
use Rattle.comp_entity.specs.Entity.{Name, ValueTree, Primitive, TupleOf, RecordOf, VariantOf, ListOf, FlagsOf, EnumOf, OptionOf, ResultOf, Own, Borrow, ValueTrees, none, more, Cases, no_case, labelled, Payload, absent, present, FuncTree, TypeShapeTree, Value, Resource, Func, Instance, Component, EntityTree, IsType, IsFunc, IsInstance, IsComponent, IsModule, Entries, no_entry, entry}
use Rattle.comp_entity.specs.Names.{changing, entity_by}

abbrev pub same_name : Name → Name → Bool
same_name a b = (a.out == b.out) && (a.number == b.number)

-- Equality of trees, where `same` compares resources. The places that named types are set aside, and so are naming
-- bits. Since a name counts scopes outwards, trees that differ in what they call the resources of their own scopes are
-- equal.
abbrev mutual
  pub values_equal : (Name → Name → Bool) → ValueTree → ValueTree → Bool
  values_equal same (Primitive p) (Primitive q) = primitive_code p == primitive_code q
  values_equal same (TupleOf ts) (TupleOf us) = all_equal same ts us
  values_equal same (RecordOf m ts) (RecordOf n us) = cases_equal same ts us
  values_equal same (VariantOf m ts) (VariantOf n us) = cases_equal same ts us
  values_equal same (ListOf t) (ListOf u) = values_equal same t u
  values_equal same (FlagsOf m ls) (FlagsOf n ks) = pointwise bytes_eq ls ks
  values_equal same (EnumOf m ls) (EnumOf n ks) = pointwise bytes_eq ls ks
  values_equal same (OptionOf t) (OptionOf u) = values_equal same t u
  values_equal same (ResultOf t e) (ResultOf u f) = payloads_equal same t u && payloads_equal same e f
  values_equal same (Own r) (Own s) = same r s
  values_equal same (Borrow r) (Borrow s) = same r s
  values_equal same _ _ = false

  pub all_equal : (Name → Name → Bool) → ValueTrees → ValueTrees → Bool
  all_equal same none none = true
  all_equal same (more t ts) (more u us) = values_equal same t u && all_equal same ts us
  all_equal same _ _ = false

  pub cases_equal : (Name → Name → Bool) → Cases → Cases → Bool
  cases_equal same no_case no_case = true
  cases_equal same (labelled l t ts) (labelled k u us) = bytes_eq l k && payloads_equal same t u && cases_equal same ts us
  cases_equal same _ _ = false

  pub payloads_equal : (Name → Name → Bool) → Payload → Payload → Bool
  payloads_equal same absent absent = true
  payloads_equal same (present t) (present u) = values_equal same t u
  payloads_equal same _ _ = false

-- parameters, each with its name
abbrev pub params_equal : (Name → Name → Bool) → List ℕ × ValueTree → List ℕ × ValueTree → Bool
params_equal same p q = bytes_eq p.0 q.0 && values_equal same p.1 q.1

abbrev pub funcs_equal : (Name → Name → Bool) → FuncTree → FuncTree → Bool
funcs_equal same f g = pointwise (params_equal same) f.params g.params && option_eq (values_equal same) f.result g.result

abbrev pub limits_equal : Limits → Limits → Bool
limits_equal a b = (a.min == b.min) && option_eq (λ m n. m == n) a.max b.max

abbrev pub core_values_equal : CoreVal → CoreVal → Bool
core_values_equal v w = core_value_code v == core_value_code w

abbrev pub same_truth : Bool → Bool → Bool
same_truth true b = b
same_truth false true = false
same_truth false false = true

abbrev pub core_equal : CoreShape → CoreShape → Bool
core_equal (core.Func ps rs) (core.Func qs ss) = pointwise core_values_equal ps qs && pointwise core_values_equal rs ss
core_equal (core.Table v l) (core.Table w m) = core_values_equal v w && limits_equal l m
core_equal (core.Memory l) (core.Memory m) = limits_equal l m
core_equal (core.Global v a) (core.Global w b) = core_values_equal v w && same_truth a b
core_equal _ _ = false

abbrev pub core_imports_equal : List ℕ × List ℕ × CoreShape → List ℕ × List ℕ × CoreShape → Bool
core_imports_equal a b = bytes_eq a.0 b.0 && bytes_eq a.1 b.1 && core_equal a.2 b.2

abbrev pub core_exports_equal : List ℕ × CoreShape → List ℕ × CoreShape → Bool
core_exports_equal a b = bytes_eq a.0 b.0 && core_equal a.1 b.1

abbrev pub modules_equal : ModuleShape → ModuleShape → Bool
modules_equal m n = pointwise core_imports_equal m.imports n.imports && pointwise core_exports_equal m.exports n.exports

abbrev mutual
  pub types_equal : (Name → Name → Bool) → TypeShapeTree → TypeShapeTree → Bool
  types_equal same (Value t) (Value u) = values_equal same t u
  types_equal same (Resource r) (Resource s) = same r s
  types_equal same (Func f) (Func g) = funcs_equal same f g
  types_equal same (Instance es) (Instance fs) = entries_equal same es fs
  types_equal same (Component is es) (Component js fs) = entries_equal same is js && entries_equal same es fs
  types_equal same _ _ = false

  pub entities_equal : (Name → Name → Bool) → EntityTree → EntityTree → Bool
  entities_equal same (IsType t) (IsType u) = types_equal same t u
  entities_equal same (IsFunc f) (IsFunc g) = funcs_equal same f g
  entities_equal same (IsInstance es) (IsInstance fs) = entries_equal same es fs
  entities_equal same (IsComponent is es) (IsComponent js fs) = entries_equal same is js && entries_equal same es fs
  entities_equal same (IsModule m) (IsModule n) = modules_equal m n
  entities_equal same _ _ = false

  pub entries_equal : (Name → Name → Bool) → Entries → Entries → Bool
  entries_equal same no_entry no_entry = true
  entries_equal same (entry m a p es) (entry n b q fs) = bytes_eq m n && entities_equal same a b && entries_equal same es fs
  entries_equal same _ _ = false

-- the first entity under a name, with its naming bit
abbrev pub under : List ℕ → Entries → Option (EntityTree × Bool)
under name no_entry = None
under name (entry n e mark es) = if bytes_eq name n then Some (e, mark) else under name es

-- A core module fits where each export that is asked for is there, and each of its imports is one of those that are
-- asked for.
abbrev pub module_fits : ModuleShape → ModuleShape → Bool
module_fits m asked =
    list_all (λ e. list_any (core_exports_equal e) m.exports) asked.exports
    && list_all (λ i. list_any (core_imports_equal i) asked.imports) m.imports

-- Whether an entity fits an asked one, where `same` compares resources: an instance by the names of its exports, a core
-- module as above, and all else where it is equal.
abbrev mutual
  pub fits_with : (Name → Name → Bool) → EntityTree → EntityTree → Bool
  fits_with same (IsInstance es) (IsInstance asked) = all_fit same es asked
  fits_with same (IsModule m) (IsModule n) = module_fits m n
  fits_with same a b = entities_equal same a b

  pub all_fit : (Name → Name → Bool) → Entries → Entries → Bool
  all_fit same es no_entry = true
  all_fit same es (entry name asked mark rest) =
      option_map_or (λ e. fits_with same e.0 asked) (under name es) false && all_fit same es rest

-- What stands in a given entity for a name of the asked one: what the given one has at the same path of names. The type
-- there may have no place that named it.
pub data Stands : Type 0 where
  ForResource : Name → Name → Stands
  ForPlace : Name → Option Name → Stands

-- the place that named a value type
abbrev pub place_of : ValueTree → Option Name
place_of (RecordOf place fields) = place
place_of (VariantOf place cases) = place
place_of (FlagsOf place labels) = place
place_of (EnumOf place labels) = place
place_of _ = None

abbrev pub for_place : Option Name → Option Name → List Stands
for_place (Some asked) given = ForPlace asked given ∷ []
for_place None given = []

abbrev pub type_stands : TypeShapeTree → TypeShapeTree → List Stands
type_stands (Resource r) (Resource asked) = ForResource asked r ∷ []
type_stands (Value t) (Value asked) = for_place (place_of asked) (place_of t)
type_stands _ _ = []

abbrev mutual
  pub stands : EntityTree → EntityTree → List Stands
  stands (IsType t) (IsType asked) = type_stands t asked
  stands (IsInstance es) (IsInstance asked) = all_stand es asked
  stands _ _ = []

  pub all_stand : Entries → Entries → List Stands
  all_stand es no_entry = []
  all_stand es (entry name asked mark rest) = option_map_or (λ e. stands e.0 asked) (under name es) [] ++ all_stand es rest

-- the first that stands for a resource, or for a place
abbrev pub resource_for : List Stands → Name → Option Name
resource_for [] n = None
resource_for (ForResource asked r ∷ ss) n = if same_name asked n then Some r else resource_for ss n
resource_for (ForPlace asked p ∷ ss) n = resource_for ss n

abbrev pub place_for : List Stands → Name → Option (Option Name)
place_for [] n = None
place_for (ForResource asked r ∷ ss) n = place_for ss n
place_for (ForPlace asked p ∷ ss) n = if same_name asked n then Some p else place_for ss n

-- the asked entity, in which each resource for which another one stands is that one
abbrev pub with_standing : EntityTree → EntityTree → EntityTree
with_standing given asked =
    entity_by (changing (λ n. unwrap_or (resource_for (stands given asked) n) n) (λ n. n)) 0 asked

-- Equality of entities; fit; and fit where all resources are taken as one. A resource that the asked entity is, or that
-- it itself exports as a type, through instances too, is fitted by any resource, which then stands for it.
abbrev pub equal : EntityTree → EntityTree → Bool
equal = entities_equal same_name

abbrev pub fits : EntityTree → EntityTree → Bool
fits given asked = fits_with same_name given (with_standing given asked)

abbrev pub fits_loosely : EntityTree → EntityTree → Bool
fits_loosely = fits_with (λ r s. true)
