-- Left imports, in the order in which they are written, of which each function has the naming bit: each record, variant,
-- flags and enum in its type was named by a place that has it (Component Model, Explainer.md, "Import and Export
-- Definitions").
use Rattle.std.specs.Prelude.{◌≡◌, ℕ, ◌-◌, Bool, true, false, ◌&&◌, List, [], ◌∷◌, Option, Some, None, find, nat_lt, option_and_then, option_map, slice_get, take, if◌then◌else◌}
use Rattle.std.specs.List.{list_all}
use Rattle.comp_entity.specs.Entity.{Name, ValueTree, Primitive, TupleOf, RecordOf, VariantOf, ListOf, FlagsOf, EnumOf, OptionOf, ResultOf, Own, Borrow, ValueTrees, none, more, Cases, no_case, labelled, Payload, absent, present, FuncTree, TypeShapeTree, Value, Resource, Func, Instance, Component, EntityTree, IsType, IsFunc, IsInstance, IsComponent, IsModule, IsOwnModule, Entries, no_entry, entry}
use Rattle.comp_entity.specs.Fits.{place_of, same_name}
use Rattle.comp_entity.specs.Places.{Path}
use Rattle.comp_scope.specs.Spaces.{is_named}
use Rattle.compose_left.specs.Origins.{same_path}
use Rattle.compose_left.specs.declared.spots.Spot.{Spot}
use Rattle.compose_left.specs.declared.spots.Thing.{Thing}
use Rattle.compose_needs.specs.declared.leaves.Leaf.{Leaf}
use Rattle.compose_needs.specs.Leaves.{leaves_at}
use Rattle.compose_order.specs.Agreed.{IsNamedAt}
use Rattle.compose_order.specs.Needs.{LeftTree}
use Rattle.compose_naming.specs.Settled.{name_in, settled}

-- the types that places named, each with whether it has the naming bit
abbrev pub Bits : Type 0
Bits = Name → Option Bool

-- ---- of a type

abbrev pub both : Option Bool → Option Bool → Option Bool
both (Some a) (Some b) = Some (a && b)
both _ _ = None

-- of a part: of one that a place named that of the place, and of any other its own
abbrev pub place_bit : Bits → Option Name → Option Bool → Option Bool
place_bit bits (Some n) own = bits n
place_bit bits None own = own

abbrev pub part_bit : Bits → ValueTree → Option Bool → Option Bool
part_bit bits t own = place_bit bits (place_of t) (option_map (λ b. b && is_named t) own)

-- whether all parts of a type have it; of a part that nothing named so far it is not known
abbrev mutual
  pub own_bit : Bits → ValueTree → Option Bool
  own_bit bits (Primitive p) = Some true
  own_bit bits (TupleOf parts) = parts_bit bits parts
  own_bit bits (RecordOf place fields) = cases_bit bits fields
  own_bit bits (VariantOf place cases) = cases_bit bits cases
  own_bit bits (ListOf t) = part_bit bits t (own_bit bits t)
  own_bit bits (FlagsOf place labels) = Some true
  own_bit bits (EnumOf place labels) = Some true
  own_bit bits (OptionOf t) = part_bit bits t (own_bit bits t)
  own_bit bits (ResultOf ok err) = both (payload_bit bits ok) (payload_bit bits err)
  own_bit bits (Own r) = Some true
  own_bit bits (Borrow r) = Some true

  pub parts_bit : Bits → ValueTrees → Option Bool
  parts_bit bits none = Some true
  parts_bit bits (more t ts) = both (part_bit bits t (own_bit bits t)) (parts_bit bits ts)

  pub cases_bit : Bits → Cases → Option Bool
  cases_bit bits no_case = Some true
  cases_bit bits (labelled label payload cases) = both (payload_bit bits payload) (cases_bit bits cases)

  pub payload_bit : Bits → Payload → Option Bool
  payload_bit bits absent = Some true
  payload_bit bits (present t) = part_bit bits t (own_bit bits t)

abbrev pub value_bit : Bits → ValueTree → Option Bool
value_bit bits t = part_bit bits t (own_bit bits t)

-- whether a type has it for sure
abbrev pub is_set : Option Bool → Bool
is_set (Some b) = b
is_set None = false

abbrev pub has_bit : Bits → ValueTree → Bool
has_bit bits t = is_set (value_bit bits t)

abbrev pub result_has_bit : Bits → Option ValueTree → Bool
result_has_bit bits None = true
result_has_bit bits (Some t) = has_bit bits t

-- whether a function may be imported or exported
abbrev pub param_has_bit : Bits → List ℕ × ValueTree → Bool
param_has_bit bits p = has_bit bits p.1

abbrev pub func_has_bit : Bits → FuncTree → Bool
func_has_bit bits f = list_all (param_has_bit bits) f.params && result_has_bit bits f.result

-- ---- where things stand

-- A scope that is open: how many scopes of names it counts, and the bits of the types that are named in it. Of scopes
-- the innermost is the first.
pub record Scope : Type 0 where
  pub width : ℕ
  pub bits : Bits

-- a scope at its begin
abbrev pub opened : ℕ → Scope
opened width = record { width = width; bits = λ n. None }

-- the outermost scope is a component
abbrev pub outermost : List Scope
outermost = opened 2 ∷ []

-- a name, as it is called so many scopes further out
abbrev pub further_out : ℕ → Name → Name
further_out width n = record { out = n.out - width; number = n.number }

abbrev pub bit_in : List Scope → Bits
bit_in [] n = None
bit_in (s ∷ around) n = if nat_lt n.out s.width then s.bits n else bit_in around (further_out s.width n)

-- the bit of a type that is new in a scope
abbrev pub with_bit : Name → Bool → Scope → Scope
with_bit n b s = record s { bits = λ m. if same_name n m then Some b else s.bits m }

-- in the innermost scope only its own types are new
abbrev pub noted : Name → Bool → List Scope → Option (List Scope)
noted n b [] = None
noted n b (s ∷ around) = if nat_lt n.out s.width then Some (with_bit n b s ∷ around) else None

abbrev pub noted_where : Name → List Scope → Option Bool → Option (List Scope)
noted_where n scopes None = None
noted_where n scopes (Some b) = noted n b scopes

-- ---- behind what stands in a left import

-- a type that is named, where nothing named it before
abbrev pub named_in : List Scope → ValueTree → Name → Option Bool → Option (List Scope)
named_in scopes t n (Some b) = Some scopes
named_in scopes t n None = noted_where n scopes (own_bit (bit_in scopes) t)

abbrev pub behind_place : List Scope → ValueTree → Option Name → Option (List Scope)
behind_place scopes t None = Some scopes
behind_place scopes t (Some n) = named_in scopes t n (bit_in scopes n)

abbrev pub behind_value : List Scope → ValueTree → Option (List Scope)
behind_value scopes t = behind_place scopes t (place_of t)

abbrev pub closed : List Scope → Option (List Scope)
closed [] = None
closed (s ∷ around) = Some around

-- `None` where a function lacks the bit, or something mentions a type that nothing named so far
abbrev mutual
  pub behind_type : TypeShapeTree → List Scope → Option (List Scope)
  behind_type (Value t) scopes = behind_value scopes t
  behind_type (Resource r) scopes = Some scopes
  behind_type (Func f) scopes = Some scopes
  behind_type (Instance es) scopes = option_and_then closed (behind_all es (opened 1 ∷ scopes))
  behind_type (Component is es) scopes =
      option_and_then closed (option_and_then (behind_all es) (behind_all is (opened 2 ∷ scopes)))

  pub behind : EntityTree → List Scope → Option (List Scope)
  behind (IsType t) scopes = behind_type t scopes
  behind (IsFunc f) scopes = if func_has_bit (bit_in scopes) f then Some scopes else None
  behind (IsInstance es) scopes = behind_all es scopes
  behind (IsComponent is es) scopes =
      option_and_then closed (option_and_then (behind_all es) (behind_all is (opened 2 ∷ scopes)))
  behind (IsModule m) scopes = Some scopes
  behind IsOwnModule scopes = Some scopes

  pub behind_all : Entries → List Scope → Option (List Scope)
  behind_all no_entry scopes = Some scopes
  behind_all (entry name e mark es) scopes = option_and_then (behind_all es) (behind e scopes)

-- ---- behind a left import

abbrev pub type_named : Option Thing → Option Name
type_named None = None
type_named (Some t) = if t.is_type then Some (name_in t) else None

abbrev pub is_at : Path → Leaf → Bool
is_at path leaf = same_path leaf.path path

-- the type that is named at a path
abbrev pub named_at : List Leaf → Path → Option Name
named_at leaves path = option_and_then (λ leaf. type_named leaf.named) (find (is_at path) leaves)

-- What is called at a path, and was not named before, is the type that is named there.
abbrev pub called_where : List Scope → Name → Option Bool → Option Bool → Option (List Scope)
called_where scopes n there (Some b) = Some scopes
called_where scopes n there None = noted_where n scopes there

abbrev pub bit_at : List Leaf → List Scope → Path → Option Bool
bit_at leaves scopes path = option_and_then (bit_in scopes) (named_at leaves path)

abbrev pub behind_call : List Leaf → List Scope → Spot → Option (List Scope)
behind_call leaves scopes s =
    if s.what.is_type
    then called_where scopes (name_in s.what) (bit_at leaves scopes s.path) (bit_in scopes (name_in s.what))
    else Some scopes

abbrev pub behind_calls : List Leaf → List Spot → List Scope → Option (List Scope)
behind_calls leaves [] scopes = Some scopes
behind_calls leaves (s ∷ ss) scopes = option_and_then (behind_calls leaves ss) (behind_call leaves scopes s)

abbrev pub behind_entity : EntityTree → List Spot → List Scope → Option (List Scope)
behind_entity e calls scopes = option_and_then (behind_calls (leaves_at e) calls) (behind e scopes)

-- as it is written
abbrev pub behind_left : LeftTree → List Scope → Option (List Scope)
behind_left l scopes = behind_entity (settled l).entity l.calls scopes

abbrev pub behind_lefts : List LeftTree → List Scope → Option (List Scope)
behind_lefts [] scopes = Some scopes
behind_lefts (l ∷ ls) scopes = option_and_then (behind_lefts ls) (behind_left l scopes)

-- ---- the rule

-- Left imports, in the order in which they are written, of which each function has the naming bit.
pub record HaveBits (ls : List LeftTree) : Type 0 where
  pub scopes : List Scope
  pub are : behind_lefts ls outermost ≡ Some scopes

-- the number of the first that has a function without it
pub record IsFirstWithoutBit (ls : List LeftTree) (number : ℕ) : Type 0 where
  pub import : LeftTree
  pub there : slice_get ls number ≡ Some import
  pub scopes : List Scope
  pub before : behind_lefts (take number ls) outermost ≡ Some scopes
  pub fails : behind_left import scopes ≡ None

-- and its name
pub record LacksBit (ls : List LeftTree) (name : List ℕ) : Type 0 where
  pub number : ℕ
  pub first : IsFirstWithoutBit ls number
  pub named : IsNamedAt ls number name
