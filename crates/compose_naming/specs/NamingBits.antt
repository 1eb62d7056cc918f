-- The naming bits of the types that left imports name, as a relation: bits that each of them may have, whatever finds
-- them (Component Model, Explainer.md, "Import and Export Definitions"). `Bits` has the bits that are found along the
-- way.
use Rattle.std.specs.Prelude.{◌≡◌, ℕ, Bool, true, false, ◌||◌, List, [], ◌∷◌, Option, Some, None, nat_lt, if◌then◌else◌}
use Rattle.comp_entity.specs.Entity.{Name, ValueTree, TypeShapeTree, Value, Resource, Func, Instance, Component, EntityTree, IsType, IsFunc, IsInstance, IsComponent, IsModule, IsOwnModule, Entries, no_entry, entry}
use Rattle.comp_entity.specs.Fits.{place_of, same_name}
use Rattle.compose_left.specs.declared.spots.Spot.{Spot}
use Rattle.compose_needs.specs.declared.leaves.Leaf.{Leaf}
use Rattle.compose_needs.specs.Leaves.{leaves_at}
use Rattle.compose_order.specs.Needs.{LeftTree}
use Rattle.compose_naming.specs.Bits.{Bits, Scope, bit_in, func_has_bit, further_out, named_at, own_bit}
use Rattle.compose_naming.specs.Settled.{name_in, settled}

-- ---- names in scopes

-- names of a scope that counts so many scopes of names, and of those around it, as they are called in it
abbrev pub inside : ℕ → (Name → Bool) → (Name → Bool) → Name → Bool
inside width own around n = if nat_lt n.out width then own n else around (further_out width n)

abbrev pub nothing : Name → Bool
nothing n = false

abbrev pub with_name : (Name → Bool) → Option Name → Name → Bool
with_name named None = named
with_name named (Some n) = λ m. named m || same_name n m

-- what is named behind an entity, instances gone into
abbrev mutual
  pub named_behind : (Name → Bool) → EntityTree → Name → Bool
  named_behind named (IsType (Value t)) = with_name named (place_of t)
  named_behind named (IsType (Resource r)) = named
  named_behind named (IsType (Func f)) = named
  named_behind named (IsType (Instance es)) = named
  named_behind named (IsType (Component is es)) = named
  named_behind named (IsFunc f) = named
  named_behind named (IsInstance es) = all_named_behind named es
  named_behind named (IsComponent is es) = named
  named_behind named (IsModule m) = named
  named_behind named IsOwnModule = named

  pub all_named_behind : (Name → Bool) → Entries → Name → Bool
  all_named_behind named no_entry = named
  all_named_behind named (entry name e mark es) = all_named_behind (named_behind named e) es

-- the bits of the types that are named so far
abbrev pub bits_of : (Name → Bool) → (Name → Bool) → Bits
bits_of named bit n = if named n then Some (bit n) else None

-- bits that are so, where scopes have them
abbrev pub Extends : (Name → Bool) → List Scope → Type 0
Extends bit scopes = (n : Name) (b : Bool) → bit_in scopes n ≡ Some b → bit n ≡ b

-- ---- which bits they may have

-- A type that is named here first is one of this scope. It has the bit exactly where each of its parts has it, of which
-- those that a place named were named before.
pub record IsNamedFirst (width : ℕ) (named bit : Name → Bool) (t : ValueTree) (n : Name) : Type 0 where
  pub own : nat_lt n.out width ≡ true
  pub parts : own_bit (bits_of named bit) t ≡ Some (bit n)

abbrev pub PlaceHas : ℕ → (Name → Bool) → (Name → Bool) → ValueTree → Option Name → Type 0
PlaceHas width named bit t None = Unit {0}
PlaceHas width named bit t (Some n) = named n ≡ false → IsNamedFirst width named bit t n

-- Each function has the bit. A type of instances or components is a scope of its own, whose types have bits of their
-- own.
abbrev mutual
  pub TypeHas : ℕ → (Name → Bool) → (Name → Bool) → TypeShapeTree → Type 0
  TypeHas width named bit (Value t) = PlaceHas width named bit t (place_of t)
  TypeHas width named bit (Resource r) = Unit {0}
  TypeHas width named bit (Func f) = Unit {0}
  TypeHas width named bit (Instance es) =
      (own : Name → Bool) × AllHave 1 (inside 1 nothing named) (inside 1 own bit) es
  TypeHas width named bit (Component is es) = (own : Name → Bool)
      × AllHave 2 (inside 2 nothing named) (inside 2 own bit) is
      × AllHave 2 (all_named_behind (inside 2 nothing named) is) (inside 2 own bit) es

  pub Has : ℕ → (Name → Bool) → (Name → Bool) → EntityTree → Type 0
  Has width named bit (IsType t) = TypeHas width named bit t
  Has width named bit (IsFunc f) = func_has_bit (bits_of named bit) f ≡ true
  Has width named bit (IsInstance es) = AllHave width named bit es
  Has width named bit (IsComponent is es) = (own : Name → Bool)
      × AllHave 2 (inside 2 nothing named) (inside 2 own bit) is
      × AllHave 2 (all_named_behind (inside 2 nothing named) is) (inside 2 own bit) es
  Has width named bit (IsModule m) = Unit {0}
  Has width named bit IsOwnModule = Unit {0}

  pub AllHave : ℕ → (Name → Bool) → (Name → Bool) → Entries → Type 0
  AllHave width named bit no_entry = Unit {0}
  AllHave width named bit (entry name e mark es) =
      Has width named bit e × AllHave width (named_behind named e) bit es

-- ---- of left imports

-- the outermost scope is a component
abbrev pub outer_width : ℕ
outer_width = 2

abbrev pub named_by_call : (Name → Bool) → Spot → Name → Bool
named_by_call named s = if s.what.is_type then with_name named (Some (name_in s.what)) else named

abbrev pub named_by_calls : (Name → Bool) → List Spot → Name → Bool
named_by_calls named [] = named
named_by_calls named (s ∷ ss) = named_by_calls (named_by_call named s) ss

-- A type that is first named by a call has the bit of the type that stands at the path of the call, which was named
-- before.
pub record IsCalledFirst (leaves : List Leaf) (named bit : Name → Bool) (s : Spot) : Type 0 where
  pub place : Name
  pub there : named_at leaves s.path ≡ Some place
  pub before : named place ≡ true
  pub own : nat_lt (name_in s.what).out outer_width ≡ true
  pub same : bit (name_in s.what) ≡ bit place

abbrev pub CallHas : List Leaf → (Name → Bool) → (Name → Bool) → Spot → Type 0
CallHas leaves named bit s =
    s.what.is_type ≡ true → named (name_in s.what) ≡ false → IsCalledFirst leaves named bit s

abbrev pub CallsHave : List Leaf → (Name → Bool) → (Name → Bool) → List Spot → Type 0
CallsHave leaves named bit [] = Unit {0}
CallsHave leaves named bit (s ∷ ss) = CallHas leaves named bit s × CallsHave leaves (named_by_call named s) bit ss

abbrev pub EntityHas : (Name → Bool) → (Name → Bool) → EntityTree → List Spot → Type 0
EntityHas named bit e calls =
    Has outer_width named bit e × CallsHave (leaves_at e) (named_behind named e) bit calls

-- each as it is written, behind those before it
abbrev pub named_behind_left : (Name → Bool) → LeftTree → Name → Bool
named_behind_left named l = named_by_calls (named_behind named (settled l).entity) l.calls

abbrev pub AllImportsHave : (Name → Bool) → (Name → Bool) → List LeftTree → Type 0
AllImportsHave named bit [] = Unit {0}
AllImportsHave named bit (l ∷ ls) =
    EntityHas named bit (settled l).entity l.calls × AllImportsHave (named_behind_left named l) bit ls

-- Left imports, in the order in which they are written, whose named types may have bits with which each function has
-- the naming bit.
pub record HaveNamingBits (ls : List LeftTree) : Type 0 where
  pub bit : Name → Bool
  pub have : AllImportsHave nothing bit ls
