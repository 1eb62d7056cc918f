-- What code keeps, as what the definitions of compose_writing speak of.
use Rattle.std.specs.Prelude.{◌≡◌, ℕ, suc, ◌<◌, ◌&&◌, ◌==◌, Bool, List, [], ◌∷◌, map, length, All, Option, Some, None, option_map, if◌then◌else◌}
use Rattle.std.specs.BTreeMap.{BTreeMap, get}
use Rattle.std.specs.Ordering.{bool_cmp, nat_cmp, ordering_then}
use Rattle.std.specs.declared.cmp.Ordering.{Ordering}
use Rattle.comp_entity.specs.Fits.{same_truth}
use Rattle.comp_entity.specs.Entity.{Name}
use Rattle.comp_entity.specs.Names.{Mention, OfResource, OfPlace}
use Rattle.compose_writing.specs.Keys.{At, Index, InInstance, KnownThings}
use Rattle.compose_types.specs.declared.known.Key.{Key}
use Rattle.compose_types.specs.declared.known.At.{At as AtOf}
use Rattle.compose_types.specs.declared.known.At.TheVariants as at

abbrev pub name_of : Key → Name
name_of k = record { out = k.out; number = k.number }

abbrev pub mention_of : Key → Mention
mention_of k = if k.is_place then OfPlace (name_of k) else OfResource (name_of k)

abbrev pub at_of : AtOf → At
at_of (at.Index i) = Index i
at_of (at.InInstance from path) = InInstance from path

abbrev pub place_of : Key × AtOf → Mention × At
place_of k = (mention_of k.0, at_of k.1)

abbrev pub known_of : List (Key × AtOf) → KnownThings
known_of ks = map place_of ks

abbrev pub at_there : Mention × At → At
at_there k = k.1

-- a path of names that are not empty
abbrev pub IsNamed : At → Type 0
IsNamed (Index i) = Unit {0}
IsNamed (InInstance from path) = All (λ name. 0 < length name) path

abbrev pub AreNamed : KnownThings → Type 0
AreNamed [] = Unit {0}
AreNamed (k ∷ ks) = IsNamed k.1 × AreNamed ks

-- ---- things found by a map

abbrev pub same_key : Key → Key → Bool
same_key a b = same_truth a.is_place b.is_place && ((a.out == b.out) && (a.number == b.number))

abbrev pub key_cmp : Key → Key → Ordering
key_cmp a b = ordering_then (bool_cmp a.is_place b.is_place) (ordering_then (nat_cmp a.out b.out) (nat_cmp a.number b.number))

-- where the first of some things stands that is this one
abbrev pub key_place : Key → List (Key × AtOf) → Option ℕ
key_place key [] = None
key_place key (k ∷ ks) = if same_key k.0 key then Some 0 else option_map suc (key_place key ks)

abbrev pub FindsKeys : BTreeMap Key ℕ → List (Key × AtOf) → Type 0
FindsKeys first ks = (key : Key) → get key_cmp first key ≡ key_place key ks

-- the places of things have no empty names, and the map finds the first of each
pub record AreFound (first : BTreeMap Key ℕ) (ks : List (Key × AtOf)) : Type 0 where
  pub named : AreNamed (known_of ks)
  pub found : FindsKeys first ks
