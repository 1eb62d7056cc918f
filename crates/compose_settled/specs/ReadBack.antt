-- Imports that read back as they are meant, one behind the other (Component Model, Explainer.md, "Import and Export
-- Definitions").
use Rattle.std.specs.Prelude.{◌≡◌, ℕ, Bool, true, false, List, [], ◌∷◌, ◌++◌, map, filter, Some, Ok}
use Rattle.std.specs.List.{AllByRecursion, Contains, list_any}
use Rattle.std.specs.Str.{str_eq_ignore_ascii_case}
use Rattle.comp_format.specs.Items.{ItemTree}
use Rattle.comp_entity.specs.Entity.{Name, ValueTree, EntityTree}
use Rattle.comp_entity.specs.Fits.{place_of}
use Rattle.comp_entity.specs.Names.{Mention, OfPlace, bare}
use Rattle.comp_entity.specs.Places.{Path}
use Rattle.comp_entity.specs.Bounds.{unbounded}
use Rattle.comp_coherence.specs.Coherence.{Names}
use Rattle.comp_scope.specs.Shape.{after_parts, in_front_of, nothing}
use Rattle.comp_scope.specs.Spaces.{Known, Standing, nothing_known}
use Rattle.compose_left.specs.declared.spots.Spot.{Spot as Call}
use Rattle.compose_left.specs.Wiring.{Wiring}
use Rattle.compose_order.specs.Needs.{LeftTree}
use Rattle.compose_writing.specs.Conditions.{with_these}
use Rattle.compose_writing.specs.Scopes.{WrittenScope, outermost}
use Rattle.compose_meaning.specs.Keeps.{Keeps, spot_of}
use Rattle.compose_meaning.specs.Meaning.{Meaning, placed_entity}
use Rattle.compose_meaning.specs.Readable.{HasMeaning, Spot, behind, brought_keys}
use Rattle.compose_coherence.specs.Agreement.{Agrees}
use Rattle.compose_coherence.specs.Remaining.{Remains}
use Rattle.compose_check.specs.Open.{lefts}
use Rattle.compose_origins.specs.Placed.{value_at}
use Rattle.compose_naming.specs.Settled.{name_in, settled}

-- At a path stands a type that a place named, and a name means what that place means.
pub record IsCalled (mean : Meaning) (e : EntityTree) (path : Path) (n : Name) : Type 0 where
  pub ty : ValueTree
  pub place : Name
  pub there : value_at path e ≡ Some ty
  pub named : place_of ty ≡ Some place
  pub tree : mean.tree n ≡ mean.tree place
  pub bit : mean.bit n ≡ mean.bit place

-- the names by which named types are called in an import
abbrev pub is_type : Call → Bool
is_type s = s.what.is_type

abbrev pub key_of : Call → Mention
key_of s = OfPlace (name_in s.what)

abbrev pub called_keys : List Call → List Mention
called_keys calls = map key_of (filter is_type calls)

-- what is known behind an import, and a call in it
abbrev pub known_behind : (Mention → Bool) → EntityTree → Mention → Bool
known_behind known e = with_these known (brought_keys e)

abbrev pub with_call : (Mention → Bool) → Call → Mention → Bool
with_call known s = with_these known (called_keys (s ∷ []))

-- what is called at a path, where it is a type that was not known, means what stands there
abbrev pub CallMeans : Meaning → EntityTree → (Mention → Bool) → Call → Type 0
CallMeans mean e known s =
    s.what.is_type ≡ true → known (key_of s) ≡ false → IsCalled mean e s.path (name_in s.what)

abbrev pub CallsMean : Meaning → EntityTree → (Mention → Bool) → List Call → Type 0
CallsMean mean e known [] = Unit {0}
CallsMean mean e known (s ∷ ss) = CallMeans mean e known s × CallsMean mean e (with_call known s) ss

-- An import has a meaning where it stands, and a name of its own, letter case set aside, and what is called in it means
-- what stands there.
pub record IsReadable (mean : Meaning) (p : Spot) (l : LeftTree) : Type 0 where
  pub meaning : HasMeaning mean p l.entity
  pub apart : list_any (str_eq_ignore_ascii_case l.name) p.names ≡ false
  pub called : CallsMean mean l.entity (known_behind p.known l.entity) l.calls

-- where the next import stands
abbrev pub spot_behind : Meaning → Spot → LeftTree → Spot
spot_behind mean p l = record (behind mean p l.name l.entity) {
  known = with_these (known_behind p.known l.entity) (called_keys l.calls);
}

-- each behind those before it
abbrev pub AreReadable : Meaning → Spot → List LeftTree → Type 0
AreReadable mean p [] = Unit {0}
AreReadable mean p (l ∷ ls) = IsReadable mean p l × AreReadable mean (spot_behind mean p l) ls

-- ---- what is read

abbrev pub read_import : List ℕ × Standing → List ℕ × EntityTree
read_import e = (e.0, bare e.1.0)

-- an import, with its resources called as they are meant
abbrev pub meant_import : Meaning → LeftTree → List ℕ × EntityTree
meant_import mean l = (l.name, placed_entity mean l.entity)

-- Behind what stood there are these imports, and nothing else is imported.
pub record ReadsBack (mean : Meaning) (k : Known) (ls : List LeftTree) (later : List WrittenScope) : Type 0 where
  pub scope : WrittenScope
  pub known : Known
  pub is : later ≡ scope ∷ []
  pub keeps : Keeps mean scope known
  pub imports : map read_import known.imports ≡ map read_import k.imports ++ map (meant_import mean) ls

-- where the first import of a component stands
abbrev pub first_import : Spot
first_import = spot_of outermost (nothing_known true)

-- Items read, as a component that has nothing else, as these imports.
pub record ReadAsMeant (mean : Meaning) (ls : List LeftTree) (items : List ItemTree) : Type 0 where
  pub known : Known
  pub is : after_parts unbounded [] (nothing_known true) (in_front_of items nothing) ≡ Ok known
  pub imports : map read_import known.imports ≡ map (meant_import mean) ls
  pub exports : known.exports ≡ []

-- ---- what remains, of left imports

-- what is called at a path, and was not known, has the naming bit of the place that stands there
abbrev pub BitMeans : Meaning → EntityTree → (Mention → Bool) → Call → Type 0
BitMeans mean e known s = s.what.is_type ≡ true → known (key_of s) ≡ false → (t : ValueTree) (r : Name)
    → value_at s.path e ≡ Some t
    → place_of t ≡ Some r
    → mean.bit (name_in s.what) ≡ mean.bit r

abbrev pub BitsMean : Meaning → EntityTree → (Mention → Bool) → List Call → Type 0
BitsMean mean e known [] = Unit {0}
BitsMean mean e known (s ∷ ss) = BitMeans mean e known s × BitsMean mean e (with_call known s) ss

-- What remains to be seen to, so that a left import is readable as it is written: what remains of its meaning, a name
-- of its own, and naming bits.
pub record RemainsToRead (mean : Meaning) (p : Spot) (l : LeftTree) : Type 0 where
  pub meaning : Remains mean p (settled l).entity
  pub apart : list_any (str_eq_ignore_ascii_case l.name) p.names ≡ false
  pub bits : BitsMean mean (settled l).entity (known_behind p.known (settled l).entity) l.calls

-- of each behind those before it
abbrev pub AllRemainToRead : Meaning → Spot → List LeftTree → Type 0
AllRemainToRead mean p [] = Unit {0}
AllRemainToRead mean p (l ∷ ls) = RemainsToRead mean p l × AllRemainToRead mean (spot_behind mean p (settled l)) ls

-- The numbers of origins mean something, such that left imports, in any order, are readable as they are written in each
-- meaning that agrees with it.
pub record AreReadableAsWritten (w : Wiring) : Type 0 where
  pub names : Names
  pub readable : (mean : Meaning) → Agrees names mean
      → (ls : List LeftTree) → AllByRecursion (Contains (lefts w)) ls
      → (p : Spot) → AllRemainToRead mean p ls → AreReadable mean p (map settled ls)
