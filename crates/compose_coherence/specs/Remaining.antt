-- What remains to be seen to, so that an entity has a meaning of which the types are known (Component Model,
-- Explainer.md, "Import and Export Definitions").
use Rattle.std.specs.Prelude.{◌≡◌, Bool, true, false, Option}
use Rattle.std.specs.List.{list_any}
use Rattle.std.specs.Str.{str_eq_ignore_ascii_case}
use Rattle.comp_entity.specs.Entity.{Name, ValueTree, TypeShapeTree, Value, Resource, Func, Instance, Component, EntityTree, IsType, IsFunc, IsInstance, IsComponent, IsModule, IsOwnModule, Entries, no_entry, entry}
use Rattle.comp_entity.specs.Fits.{place_of}
use Rattle.comp_entity.specs.Names.{OfResource}
use Rattle.compose_writing.specs.Keys.{from_within}
use Rattle.comp_coherence.specs.Coherence.{any_resource}
use Rattle.compose_meaning.specs.Meaning.{Meaning, func_bit}
use Rattle.compose_meaning.specs.Readable.{Importing, Exporting, new_name, Spot, within, in_instance_type, in_component_type, IsNumbered, first_spot, behind, exports_spot, NewPlace}
use Rattle.compose_coherence.specs.Agreement.{meaning_of}

-- the meaning of a scope's own places, whose types have such naming bits and are these
abbrev pub own_meaning : (Name → Bool) → (Name → Option ValueTree) → Meaning
own_meaning bit tree = meaning_of (λ n. n) bit (any_resource tree)

-- A component numbers what it makes, and this remains in its imports, and behind these in its exports.
abbrev pub BothSides : Meaning → Spot → Entries → (Meaning → Spot → Type 0) → (Meaning → Spot → Type 0) → Type 0
BothSides mean p is Imports Exports = Imports mean p × Exports mean (exports_spot mean p is)

abbrev pub InComponent : Meaning → Spot → Entries → Entries → (Meaning → Spot → Type 0) → (Meaning → Spot → Type 0)
    → Type 0
InComponent mean p is es Imports Exports = (bit : Name → Bool)
    × ((tree : Name → Option ValueTree)
    → BothSides (in_component_type (own_meaning bit tree) mean) p is Imports Exports)
    × IsNumbered is es

-- A resource that is not known is the next one of the scope, types that are new, and functions, have their naming bits,
-- and names differ, letter case set aside.
abbrev mutual
  pub TypeRemains : Meaning → Spot → TypeShapeTree → Type 0
  TypeRemains mean p (Value t) = NewPlace mean p.known t (place_of t)
  TypeRemains mean p (Resource r) = p.known (OfResource r) ≡ false → mean.resource r ≡ new_name p.side p.resources
  TypeRemains mean p (Func f) = Unit {0}
  TypeRemains mean p (Instance es) = (bit : Name → Bool)
      × ((tree : Name → Option ValueTree)
      → AllRemain (in_instance_type (own_meaning bit tree) mean) (first_spot Exporting (from_within 1 p.known)) es)
  TypeRemains mean p (Component is es) = InComponent mean (first_spot Importing (from_within 2 p.known)) is es
      (λ inner at. AllRemain inner at is) (λ inner at. AllRemain inner at es)

  pub Remains : Meaning → Spot → EntityTree → Type 0
  Remains mean p (IsType t) = TypeRemains mean p t
  Remains mean p (IsFunc f) = func_bit mean.bit f ≡ true
  Remains mean p (IsInstance es) = AllRemain (within p mean) (first_spot Exporting p.known) es
  Remains mean p (IsComponent is es) = InComponent mean (first_spot Importing (from_within 2 p.known)) is es
      (λ inner at. AllRemain inner at is) (λ inner at. AllRemain inner at es)
  Remains mean p (IsModule m) = Unit {0}
  Remains mean p IsOwnModule = ⊥

  pub AllRemain : Meaning → Spot → Entries → Type 0
  AllRemain mean p no_entry = Unit {0}
  AllRemain mean p (entry name e mark es) = (list_any (str_eq_ignore_ascii_case name) p.names ≡ false)
      × Remains mean p e
      × AllRemain mean (behind mean p name e) es
