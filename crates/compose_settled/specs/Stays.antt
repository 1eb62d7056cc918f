-- What remains to be seen to, so that an entity has a meaning, but for naming bits (Component Model, Explainer.md, "Import
-- and Export Definitions").
use Rattle.std.specs.Prelude.{◌≡◌, Bool, true, false, List, [], ◌∷◌, Option, Some}
use Rattle.std.specs.List.{list_any}
use Rattle.std.specs.Str.{str_eq_ignore_ascii_case}
use Rattle.comp_entity.specs.Entity.{Name, ValueTree, TypeShapeTree, Value, Resource, Func, Instance, Component, EntityTree, IsType, IsFunc, IsInstance, IsComponent, IsModule, IsOwnModule, Entries, no_entry, entry}
use Rattle.comp_entity.specs.Names.{Mention, OfPlace, OfResource}
use Rattle.compose_writing.specs.Keys.{from_within}
use Rattle.compose_meaning.specs.Meaning.{Meaning}
use Rattle.compose_meaning.specs.Readable.{Importing, Exporting, new_name, Spot, within, in_instance_type, in_component_type, IsNumbered, first_spot, behind, exports_spot}
use Rattle.compose_order.specs.Needs.{LeftTree}
use Rattle.compose_naming.specs.Bits.{Scope, bit_in}
use Rattle.compose_naming.specs.Settled.{settled}
use Rattle.compose_settled.specs.ReadBack.{spot_behind}
use Rattle.compose_coherence.specs.Remaining.{own_meaning}

-- a type is known that was named
abbrev pub Includes : (Mention → Bool) → List Scope → Type 0
Includes known scopes = (n : Name) (b : Bool) → bit_in scopes n ≡ Some b → known (OfPlace n) ≡ true

-- in a scope of its own, whatever its types are and which of them have the naming bit
abbrev pub Within : (Meaning → Type 0) → Type 0
Within P = (bit : Name → Bool) (tree : Name → Option ValueTree) → P (own_meaning bit tree)

-- A resource that is not known is the next one of the scope, components number what they make, and names differ, letter
-- case set aside.
abbrev mutual
  pub TypeStays : Meaning → Spot → TypeShapeTree → Type 0
  TypeStays mean p (Value t) = Unit {0}
  TypeStays mean p (Resource r) = p.known (OfResource r) ≡ false → mean.resource r ≡ new_name p.side p.resources
  TypeStays mean p (Func f) = Unit {0}
  TypeStays mean p (Instance es) =
      Within (λ own. AllStay (in_instance_type own mean) (first_spot Exporting (from_within 1 p.known)) es)
  TypeStays mean p (Component is es) =
      Within (λ own. AllStay (in_component_type own mean) (first_spot Importing (from_within 2 p.known)) is
      × AllStay (in_component_type own mean) (exports_spot (in_component_type own mean) (first_spot Importing (from_within 2 p.known)) is) es)
      × IsNumbered is es

  pub Stays : Meaning → Spot → EntityTree → Type 0
  Stays mean p (IsType t) = TypeStays mean p t
  Stays mean p (IsFunc f) = Unit {0}
  Stays mean p (IsInstance es) = AllStay (within p mean) (first_spot Exporting p.known) es
  Stays mean p (IsComponent is es) =
      Within (λ own. AllStay (in_component_type own mean) (first_spot Importing (from_within 2 p.known)) is
      × AllStay (in_component_type own mean) (exports_spot (in_component_type own mean) (first_spot Importing (from_within 2 p.known)) is) es)
      × IsNumbered is es
  Stays mean p (IsModule m) = Unit {0}
  Stays mean p IsOwnModule = ⊥

  pub AllStay : Meaning → Spot → Entries → Type 0
  AllStay mean p no_entry = Unit {0}
  AllStay mean p (entry name e mark es) = (list_any (str_eq_ignore_ascii_case name) p.names ≡ false)
      × Stays mean p e
      × AllStay mean (behind mean p name e) es

-- of a left import, and a name of its own
pub record StaysToRead (mean : Meaning) (p : Spot) (l : LeftTree) : Type 0 where
  pub stays : Stays mean p (settled l).entity
  pub apart : list_any (str_eq_ignore_ascii_case l.name) p.names ≡ false

-- of each behind those before it
abbrev pub AllStayToRead : Meaning → Spot → List LeftTree → Type 0
AllStayToRead mean p [] = Unit {0}
AllStayToRead mean p (l ∷ ls) = StaysToRead mean p l × AllStayToRead mean (spot_behind mean p (settled l)) ls
