-- Which names a tree mentions, and trees in which names are changed.
use Rattle.std.specs.Prelude.{ℕ, suc, ◌+◌, ◌-◌, Bool, true, false, List, [], ◌∷◌, ◌++◌, map, flat_map, max, Option, Some, None, option_map, option_to_list, nat_lt, ◌==◌, if◌then◌else◌}
use Rattle.std.specs.List.{list_any, fold}
use Rattle.comp_entity.specs.Entity.{Name, ValueTree, Primitive, TupleOf, RecordOf, VariantOf, ListOf, FlagsOf, EnumOf, OptionOf, ResultOf, Own, Borrow, ValueTrees, none, more, Cases, no_case, labelled, Payload, absent, present, FuncTree, TypeShapeTree, Value, Resource, Func, Instance, Component, EntityTree, IsType, IsFunc, IsInstance, IsComponent, IsModule, IsOwnModule, Entries, no_entry, entry}

-- A change of the names of a tree, each mentioned so many scopes deep within it, and of the naming bits of its entries.
-- A type may lose the place that named it.
pub record Change : Type 0 where
  pub resource : ℕ → Name → Name
  pub place : ℕ → Name → Option Name
  pub mark : Bool → Bool

-- a name, as it is called so many scopes further in
abbrev pub deeper : ℕ → Name → Name
deeper depth n = record n { out = n.out + depth }

-- The names of scopes within the tree stay, and those of scopes around it are changed.
abbrev pub outside : (Name → Name) → ℕ → Name → Name
outside f depth n = if nat_lt n.out depth then n else deeper depth (f (record n { out = n.out - depth }))

abbrev pub changing : (Name → Name) → (Name → Name) → Change
changing resource place = record { resource = outside resource; place = λ depth n. Some (outside place depth n); mark = λ m. m }

abbrev pub place_by : Change → ℕ → Option Name → Option Name
place_by c depth None = None
place_by c depth (Some n) = c.place depth n

abbrev mutual
  pub value_by : Change → ℕ → ValueTree → ValueTree
  value_by c d (Primitive p) = Primitive p
  value_by c d (TupleOf parts) = TupleOf (values_by c d parts)
  value_by c d (RecordOf place fields) = RecordOf (place_by c d place) (cases_by c d fields)
  value_by c d (VariantOf place cases) = VariantOf (place_by c d place) (cases_by c d cases)
  value_by c d (ListOf t) = ListOf (value_by c d t)
  value_by c d (FlagsOf place labels) = FlagsOf (place_by c d place) labels
  value_by c d (EnumOf place labels) = EnumOf (place_by c d place) labels
  value_by c d (OptionOf t) = OptionOf (value_by c d t)
  value_by c d (ResultOf ok err) = ResultOf (payload_by c d ok) (payload_by c d err)
  value_by c d (Own r) = Own (c.resource d r)
  value_by c d (Borrow r) = Borrow (c.resource d r)

  pub values_by : Change → ℕ → ValueTrees → ValueTrees
  values_by c d none = none
  values_by c d (more t ts) = more (value_by c d t) (values_by c d ts)

  pub cases_by : Change → ℕ → Cases → Cases
  cases_by c d no_case = no_case
  cases_by c d (labelled label payload cases) = labelled label (payload_by c d payload) (cases_by c d cases)

  pub payload_by : Change → ℕ → Payload → Payload
  payload_by c d absent = absent
  payload_by c d (present t) = present (value_by c d t)

abbrev pub func_by : Change → ℕ → FuncTree → FuncTree
func_by c d f = record { params = map (λ p. (p.0, value_by c d p.1)) f.params; result = option_map (value_by c d) f.result }

abbrev mutual
  pub type_by : Change → ℕ → TypeShapeTree → TypeShapeTree
  type_by c d (Value t) = Value (value_by c d t)
  type_by c d (Resource r) = Resource (c.resource d r)
  type_by c d (Func f) = Func (func_by c d f)
  type_by c d (Instance exports) = Instance (entries_by c (suc d) exports)
  type_by c d (Component imports exports) = Component (entries_by c (suc (suc d)) imports) (entries_by c (suc (suc d)) exports)

  pub entity_by : Change → ℕ → EntityTree → EntityTree
  entity_by c d (IsType t) = IsType (type_by c d t)
  entity_by c d (IsFunc f) = IsFunc (func_by c d f)
  entity_by c d (IsInstance exports) = IsInstance (entries_by c d exports)
  entity_by c d (IsComponent imports exports) = IsComponent (entries_by c (suc (suc d)) imports) (entries_by c (suc (suc d)) exports)
  entity_by c d (IsModule m) = IsModule m
  entity_by c d IsOwnModule = IsOwnModule

  pub entries_by : Change → ℕ → Entries → Entries
  entries_by c d no_entry = no_entry
  entries_by c d (entry name e mark es) = entry name (entity_by c d e) (c.mark mark) (entries_by c d es)

-- the change that sets aside which places named types, and the naming bits; and a tree without these
abbrev pub without_places : Change
without_places = record { resource = λ depth n. n; place = λ depth n. None; mark = λ m. true }

abbrev pub bare : EntityTree → EntityTree
bare e = entity_by without_places 0 e

-- A mention of a resource, or of the place that named a type.
pub data Mention : Type 0 where
  OfResource : Name → Mention
  OfPlace : Name → Mention

-- What a tree mentions, from left to right, each with the number of scopes within the tree around it.
abbrev pub at_place : ℕ → Option Name → List (ℕ × Mention)
at_place d place = map (λ n. (d, OfPlace n)) (option_to_list place)

abbrev mutual
  pub in_value : ℕ → ValueTree → List (ℕ × Mention)
  in_value d (Primitive p) = []
  in_value d (TupleOf parts) = in_values d parts
  in_value d (RecordOf place fields) = at_place d place ++ in_cases d fields
  in_value d (VariantOf place cases) = at_place d place ++ in_cases d cases
  in_value d (ListOf t) = in_value d t
  in_value d (FlagsOf place labels) = at_place d place
  in_value d (EnumOf place labels) = at_place d place
  in_value d (OptionOf t) = in_value d t
  in_value d (ResultOf ok err) = in_payload d ok ++ in_payload d err
  in_value d (Own r) = (d, OfResource r) ∷ []
  in_value d (Borrow r) = (d, OfResource r) ∷ []

  pub in_values : ℕ → ValueTrees → List (ℕ × Mention)
  in_values d none = []
  in_values d (more t ts) = in_value d t ++ in_values d ts

  pub in_cases : ℕ → Cases → List (ℕ × Mention)
  in_cases d no_case = []
  in_cases d (labelled label payload cases) = in_payload d payload ++ in_cases d cases

  pub in_payload : ℕ → Payload → List (ℕ × Mention)
  in_payload d absent = []
  in_payload d (present t) = in_value d t

abbrev pub in_func : ℕ → FuncTree → List (ℕ × Mention)
in_func d f = flat_map (λ p. in_value d p.1) f.params ++ flat_map (in_value d) (option_to_list f.result)

abbrev mutual
  pub in_type : ℕ → TypeShapeTree → List (ℕ × Mention)
  in_type d (Value t) = in_value d t
  in_type d (Resource r) = (d, OfResource r) ∷ []
  in_type d (Func f) = in_func d f
  in_type d (Instance exports) = in_entries (suc d) exports
  in_type d (Component imports exports) = in_entries (suc (suc d)) imports ++ in_entries (suc (suc d)) exports

  pub in_entity : ℕ → EntityTree → List (ℕ × Mention)
  in_entity d (IsType t) = in_type d t
  in_entity d (IsFunc f) = in_func d f
  in_entity d (IsInstance exports) = in_entries d exports
  in_entity d (IsComponent imports exports) = in_entries (suc (suc d)) imports ++ in_entries (suc (suc d)) exports
  in_entity d (IsModule m) = []
  in_entity d IsOwnModule = []

  pub in_entries : ℕ → Entries → List (ℕ × Mention)
  in_entries d no_entry = []
  in_entries d (entry name e mark es) = in_entity d e ++ in_entries d es

-- whether a resource stands anywhere in a type, one of its own scopes too
abbrev pub is_resource : ℕ × Mention → Bool
is_resource (d, OfResource r) = true
is_resource (d, OfPlace n) = false

abbrev pub mentions_resource : TypeShapeTree → Bool
mentions_resource t = list_any is_resource (in_type 0 t)

-- the numbers of those resources in some mentions that are of the scope so far out of the tree, from left to right; and
-- of the places
abbrev pub numbers_at : ℕ → ℕ → Name → List ℕ
numbers_at out d n = if n.out == out + d then n.number ∷ [] else []

abbrev pub resource_at : ℕ → ℕ × Mention → List ℕ
resource_at out (d, OfResource r) = numbers_at out d r
resource_at out (d, OfPlace n) = []

abbrev pub place_at : ℕ → ℕ × Mention → List ℕ
place_at out (d, OfResource r) = []
place_at out (d, OfPlace n) = numbers_at out d n

-- one more than the largest
abbrev pub beyond : List ℕ → ℕ
beyond ns = fold (λ most n. max most (suc n)) 0 ns

-- how many resources, and how many places that named types, a scope has
pub record Counts : Type 0 where
  pub resources : ℕ
  pub places : ℕ

abbrev pub counts_at : ℕ → List (ℕ × Mention) → Counts
counts_at out ms = record { resources = beyond (flat_map (resource_at out) ms); places = beyond (flat_map (place_at out) ms) }
