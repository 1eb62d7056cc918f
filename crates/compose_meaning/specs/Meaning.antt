-- What the names in an entity mean in the scope in which it is written: which resource each is, which type each place
-- names, and whether that type has the naming bit (Component Model, Explainer.md, "Import and Export Definitions").
use Rattle.std.specs.Prelude.{◌≡◌, ℕ, Bool, true, ◌&&◌, List, [], ◌∷◌, Option, Some, None}
use Rattle.comp_entity.specs.Entity.{Name, ValueTree, Primitive, TupleOf, RecordOf, VariantOf, ListOf, FlagsOf, EnumOf, OptionOf, ResultOf, Own, Borrow, ValueTrees, none, more, Cases, no_case, labelled, Payload, absent, present, FuncTree, TypeShapeTree, Value, Resource, EntityTree, IsType, Entries}
use Rattle.comp_entity.specs.Names.{Change, outside, value_by, func_by, entity_by, entries_by, without_places, bare, Mention, OfResource, OfPlace}
use Rattle.comp_entity.specs.Fits.{place_of}
use Rattle.comp_scope.specs.Spaces.{Standing, is_named, entity_is_named}
use Rattle.comp_scope.specs.Aliases.{from_outside}

-- A resource is called by another name where it is written. A place that named a type stands for one tree, in the names
-- of the entity, and the type that stands there has the naming bit or not. Within a type of components a resource of
-- the scopes around it may not be mentioned, nor may a type that mentions one.
pub record Meaning : Type 0 where
  pub may_mention : Mention → Bool
  pub resource : Name → Name
  pub tree : Name → ValueTree
  pub bit : Name → Bool

-- the change of names to those that they mean. It sets aside which places named types, and the naming bits.
abbrev pub placing : (Name → Name) → Change
placing f = record { resource = outside f; place = λ depth n. None; mark = λ m. true }

abbrev pub placed_value : Meaning → ValueTree → ValueTree
placed_value mean t = value_by (placing mean.resource) 0 t

abbrev pub placed_func : Meaning → FuncTree → FuncTree
placed_func mean f = func_by (placing mean.resource) 0 f

abbrev pub placed_entity : Meaning → EntityTree → EntityTree
placed_entity mean e = entity_by (placing mean.resource) 0 e

abbrev pub placed_entries : Meaning → Entries → Entries
placed_entries mean es = entries_by (placing mean.resource) 0 es

-- the type that a mention is of
abbrev pub named_type : Meaning → Mention → TypeShapeTree
named_type mean (OfResource r) = Resource r
named_type mean (OfPlace n) = Value (mean.tree n)

abbrev pub named_bit : Meaning → Mention → Bool
named_bit mean (OfResource r) = true
named_bit mean (OfPlace n) = mean.bit n

-- what a mention means: a type, and whether it has the naming bit
pub record Meant : Type 0 where
  pub entity : EntityTree
  pub bit : Bool

abbrev pub meant : Meaning → Mention → Meant
meant mean key = record { entity = placed_entity mean (IsType (named_type mean key)); bit = named_bit mean key }

-- what stands in a scope so many scopes further out is a type that has a name where it needs one, and means this
pub record Means (distance : ℕ) (what : Meant) (s : Standing) : Type 0 where
  pub ty : TypeShapeTree
  pub is_type : s.0 ≡ IsType ty
  pub is : bare (from_outside distance s.0) ≡ what.entity
  pub is_named : entity_is_named s.0 ≡ true
  pub bit : s.1 ≡ what.bit

-- ---- the naming bit of what is written

-- of a type that stands as a part: of one that a place named as it is known there, and of any other its own
abbrev pub place_bit : (Name → Bool) → Option Name → Bool → Bool
place_bit bit (Some n) own = bit n
place_bit bit None own = own

abbrev pub part_bit : (Name → Bool) → ValueTree → Bool → Bool
part_bit bit t own = place_bit bit (place_of t) (own && is_named t)

-- whether all parts of a type have it
unfoldable mutual
  pub own_bit : (Name → Bool) → ValueTree → Bool
  own_bit bit (Primitive p) = true
  own_bit bit (TupleOf parts) = parts_bit bit parts
  own_bit bit (RecordOf place fields) = cases_bit bit fields
  own_bit bit (VariantOf place cases) = cases_bit bit cases
  own_bit bit (ListOf t) = part_bit bit t (own_bit bit t)
  own_bit bit (FlagsOf place labels) = true
  own_bit bit (EnumOf place labels) = true
  own_bit bit (OptionOf t) = part_bit bit t (own_bit bit t)
  own_bit bit (ResultOf ok err) = payload_bit bit ok && payload_bit bit err
  own_bit bit (Own r) = true
  own_bit bit (Borrow r) = true

  pub parts_bit : (Name → Bool) → ValueTrees → Bool
  parts_bit bit none = true
  parts_bit bit (more t ts) = part_bit bit t (own_bit bit t) && parts_bit bit ts

  pub cases_bit : (Name → Bool) → Cases → Bool
  cases_bit bit no_case = true
  cases_bit bit (labelled label payload cases) = payload_bit bit payload && cases_bit bit cases

  pub payload_bit : (Name → Bool) → Payload → Bool
  payload_bit bit absent = true
  payload_bit bit (present t) = part_bit bit t (own_bit bit t)

abbrev pub value_bit : (Name → Bool) → ValueTree → Bool
value_bit bit t = part_bit bit t (own_bit bit t)

unfoldable pub params_bit : (Name → Bool) → List (List ℕ × ValueTree) → Bool
params_bit bit [] = true
params_bit bit (p ∷ ps) = value_bit bit p.1 && params_bit bit ps

abbrev pub result_bit : (Name → Bool) → Option ValueTree → Bool
result_bit bit None = true
result_bit bit (Some t) = value_bit bit t

-- whether a function of this type may be imported or exported
abbrev pub func_bit : (Name → Bool) → FuncTree → Bool
func_bit bit f = params_bit bit f.params && result_bit bit f.result

-- ---- entities of which the names have a meaning

-- a mention that may be made
abbrev pub IsMentioned : Meaning → Mention → Type 0
IsMentioned mean key = mean.may_mention key ≡ true

-- a place that named a type stands for that type
abbrev pub IsNamed : Meaning → ValueTree → Option Name → Type 0
IsNamed mean t None = Unit {0}
IsNamed mean t (Some n) = IsMentioned mean (OfPlace n) × (value_by without_places 0 t ≡ mean.tree n)

-- each resource in a value type may be mentioned, and each type in it that a place named is the one for which the place
-- stands
abbrev mutual
  pub OneTree : Meaning → ValueTree → Type 0
  OneTree mean (Primitive p) = Unit {0}
  OneTree mean (TupleOf parts) = OneTrees mean parts
  OneTree mean (RecordOf place fields) = IsNamed mean (RecordOf place fields) place × OneTreeCases mean fields
  OneTree mean (VariantOf place cases) = IsNamed mean (VariantOf place cases) place × OneTreeCases mean cases
  OneTree mean (ListOf t) = OneTree mean t
  OneTree mean (FlagsOf place labels) = IsNamed mean (FlagsOf place labels) place
  OneTree mean (EnumOf place labels) = IsNamed mean (EnumOf place labels) place
  OneTree mean (OptionOf t) = OneTree mean t
  OneTree mean (ResultOf ok err) = OneTreePayload mean ok × OneTreePayload mean err
  OneTree mean (Own r) = IsMentioned mean (OfResource r)
  OneTree mean (Borrow r) = IsMentioned mean (OfResource r)

  pub OneTrees : Meaning → ValueTrees → Type 0
  OneTrees mean none = Unit {0}
  OneTrees mean (more t ts) = OneTree mean t × OneTrees mean ts

  pub OneTreeCases : Meaning → Cases → Type 0
  OneTreeCases mean no_case = Unit {0}
  OneTreeCases mean (labelled label payload cases) = OneTreePayload mean payload × OneTreeCases mean cases

  pub OneTreePayload : Meaning → Payload → Type 0
  OneTreePayload mean absent = Unit {0}
  OneTreePayload mean (present t) = OneTree mean t

abbrev pub OneTreeParams : Meaning → List (List ℕ × ValueTree) → Type 0
OneTreeParams mean [] = Unit {0}
OneTreeParams mean (p ∷ ps) = OneTree mean p.1 × OneTreeParams mean ps

abbrev pub OneTreeResult : Meaning → Option ValueTree → Type 0
OneTreeResult mean None = Unit {0}
OneTreeResult mean (Some t) = OneTree mean t

abbrev pub OneTreeFunc : Meaning → FuncTree → Type 0
OneTreeFunc mean f = OneTreeParams mean f.params × OneTreeResult mean f.result
