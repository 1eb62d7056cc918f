-- That one name stands for one type (Component Model, Explainer.md, "Import and Export Definitions": an import or an
-- export of a type gives it a name of its own).
use Rattle.std.specs.Prelude.{◌≡◌, ℕ, ◌-◌, Bool, true, false, List, [], ◌∷◌, Option, Some, None, option_map, nat_lt, if◌then◌else◌}
use Rattle.std.specs.List.{AllByRecursion}
use Rattle.comp_entity.specs.Entity.{Name, ValueTree, Primitive, TupleOf, RecordOf, VariantOf, ListOf, FlagsOf, EnumOf, OptionOf, ResultOf, Own, Borrow, ValueTrees, none, more, Cases, no_case, labelled, Payload, absent, present, FuncTree, TypeShapeTree, Value, Resource, Func, Instance, Component, EntityTree, IsType, IsFunc, IsInstance, IsComponent, IsModule, IsOwnModule, Entries, no_entry, entry, ShapeTree}
use Rattle.comp_entity.specs.Names.{changing, deeper, value_by, without_places}

-- What the names in a scope mean: which resources may be mentioned, and which type each place named. The type stands in
-- the names of the scope, and which places named types within it is set aside.
pub record Names : Type 0 where
  pub resource : Name → Bool
  pub tree : Name → Option ValueTree

-- a type, in which it is set aside which places named types
abbrev pub bare_value : ValueTree → ValueTree
bare_value t = value_by without_places 0 t

-- a type, as it is called so many scopes further in
abbrev pub inward : ℕ → ValueTree → ValueTree
inward width t = value_by (changing (deeper width) (deeper width)) 0 t

-- a name, as it is called so many scopes further out
abbrev pub outward : ℕ → Name → Name
outward width n = record n { out = n.out - width }

-- Names within so many scopes more: those of these scopes, and those that are around them.
abbrev pub within : ℕ → Names → Names → Names
within width own around = record {
  resource = λ n. if nat_lt n.out width then own.resource n else around.resource (outward width n);
  tree = λ n. if nat_lt n.out width then own.tree n else option_map (inward width) (around.tree (outward width n));
}

-- in a type that is a scope any resource of its own may be mentioned
abbrev pub any_resource : (Name → Option ValueTree) → Names
any_resource tree = record { resource = λ n. true; tree = tree }

-- From within a component, and a type of components, no resource around it may be mentioned, and so no type that
-- mentions one.
abbrev pub closed_off : Names → Names
closed_off around = record { resource = λ n. false; tree = around.tree }

-- within a type of instances, and within a component and a type of components, whose own places stand for these types
abbrev pub inside_instances : (Name → Option ValueTree) → Names → Names
inside_instances own around = within 1 (any_resource own) around

abbrev pub inside_component : (Name → Option ValueTree) → Names → Names
inside_component own around = within 2 (any_resource own) (closed_off around)

-- nothing lies around a component
abbrev pub nowhere : Names
nowhere = record { resource = λ n. false; tree = λ n. None }

-- the place that named a type stands for the type
abbrev pub StandsFor : Names → ValueTree → Option Name → Type 0
StandsFor names t None = Unit {0}
StandsFor names t (Some n) = names.tree n ≡ Some (bare_value t)

-- each place that named a type in a type stands for that type
abbrev mutual
  pub OneTree : Names → ValueTree → Type 0
  OneTree names (Primitive p) = Unit {0}
  OneTree names (TupleOf parts) = OneTrees names parts
  OneTree names (RecordOf place fields) = StandsFor names (RecordOf place fields) place × OneTreeCases names fields
  OneTree names (VariantOf place cases) = StandsFor names (VariantOf place cases) place × OneTreeCases names cases
  OneTree names (ListOf t) = OneTree names t
  OneTree names (FlagsOf place labels) = StandsFor names (FlagsOf place labels) place
  OneTree names (EnumOf place labels) = StandsFor names (EnumOf place labels) place
  OneTree names (OptionOf t) = OneTree names t
  OneTree names (ResultOf ok err) = OneTreePayload names ok × OneTreePayload names err
  OneTree names (Own r) = names.resource r ≡ true
  OneTree names (Borrow r) = names.resource r ≡ true

  pub OneTrees : Names → ValueTrees → Type 0
  OneTrees names none = Unit {0}
  OneTrees names (more t ts) = OneTree names t × OneTrees names ts

  pub OneTreeCases : Names → Cases → Type 0
  OneTreeCases names no_case = Unit {0}
  OneTreeCases names (labelled label payload cases) = OneTreePayload names payload × OneTreeCases names cases

  pub OneTreePayload : Names → Payload → Type 0
  OneTreePayload names absent = Unit {0}
  OneTreePayload names (present t) = OneTree names t

abbrev pub OneTreeParams : Names → List (List ℕ × ValueTree) → Type 0
OneTreeParams names [] = Unit {0}
OneTreeParams names (p ∷ ps) = OneTree names p.1 × OneTreeParams names ps

abbrev pub OneTreeResult : Names → Option ValueTree → Type 0
OneTreeResult names None = Unit {0}
OneTreeResult names (Some t) = OneTree names t

abbrev pub OneTreeFunc : Names → FuncTree → Type 0
OneTreeFunc names f = OneTreeParams names f.params × OneTreeResult names f.result

-- The same of a type and of an entity. A type of instances is a scope, and a component, and a type of components, are
-- two: the places of these stand for types of their own.
abbrev mutual
  pub TypeCoheres : Names → TypeShapeTree → Type 0
  TypeCoheres names (Value t) = OneTree names t
  TypeCoheres names (Resource r) = names.resource r ≡ true
  TypeCoheres names (Func f) = OneTreeFunc names f
  TypeCoheres names (Instance es) = (own : Name → Option ValueTree) × AllCohere (inside_instances own names) es
  TypeCoheres names (Component is es) = (own : Name → Option ValueTree)
      × AllCohere (inside_component own names) is × AllCohere (inside_component own names) es

  pub Coheres : Names → EntityTree → Type 0
  Coheres names (IsType t) = TypeCoheres names t
  Coheres names (IsFunc f) = OneTreeFunc names f
  Coheres names (IsInstance es) = AllCohere names es
  Coheres names (IsComponent is es) = (own : Name → Option ValueTree)
      × AllCohere (inside_component own names) is × AllCohere (inside_component own names) es
  Coheres names (IsModule m) = Unit {0}
  Coheres names IsOwnModule = Unit {0}

  pub AllCohere : Names → Entries → Type 0
  AllCohere names no_entry = Unit {0}
  AllCohere names (entry name e mark es) = Coheres names e × AllCohere names es

abbrev pub EachCoheres : Names → List (List ℕ × EntityTree) → Type 0
EachCoheres names es = AllByRecursion (λ e. Coheres names e.1) es

-- Of a shape: each place that named a type, in its imports and in its exports, stands for one type.
pub record IsCoherent (s : ShapeTree) : Type 0 where
  pub tree : Name → Option ValueTree
  pub imports : EachCoheres (inside_component tree nowhere) s.imports
  pub exports : EachCoheres (inside_component tree nowhere) s.exports
