-- What maps find, as lists find it.
use Rattle.std.specs.Borrow.{Bor}
use Rattle.std.specs.Prelude.{MatchOption, Option, ◌≡◌, List, [], ◌∷◌, find, option_map}
use Rattle.std.specs.BTreeMap.{BTreeMap, get}
use Rattle.std.specs.Cmp.Lexicographic.{slice_cmp}
use Rattle.std.specs.Ordering.{nat_cmp, bool_cmp, ordering_then}
use Rattle.std.specs.declared.cmp.Ordering.{Ordering}
use Rattle.comp_entity.specs.Entity.{ShapeTree}
use Rattle.compose_left.specs.declared.spots.Thing.{Thing}
use Rattle.compose_left.specs.declared.spots.Spot.{Spot}
use Rattle.compose_left.specs.declared.places.Place.{Place}
use Rattle.compose_left.specs.declared.places.Places.{Places}
use Rattle.compose_left.specs.declared.wiring.Input.{Input}
use Rattle.compose_left.specs.declared.wiring.Wire.{Wire}
use Rattle.compose_left.specs.declared.wiring.Wired.{Wired}
use Rattle.compose_left.specs.Spots.{spots}
use Rattle.compose_left.specs.Wiring.{Wiring, wire_into, shapes_of, no_shape}
use Rattle.compose_left.specs.Origins.{names, is_exported_at}

abbrev pub thing_cmp : Thing → Thing → Ordering
thing_cmp a b = ordering_then (bool_cmp a.is_type b.is_type) (ordering_then (nat_cmp a.out b.out) (nat_cmp a.number b.number))

abbrev pub place_cmp : Place → Place → Ordering
place_cmp a b = ordering_then (bool_cmp a.is_type b.is_type) (slice_cmp (slice_cmp nat_cmp) a.path b.path)

abbrev pub FindsBrought : BTreeMap Thing Spot → List Spot → Type 0
FindsBrought found xs = (t : Thing) → get thing_cmp found t ≡ find (names t) xs

abbrev pub FindsGiven : BTreeMap Place Thing → List Spot → Type 0
FindsGiven found xs = (p : Place) → get place_cmp found p ≡ option_map (λ (x : Spot). x.what) (find (is_exported_at p.is_type p.path) xs)

pub record IsPlaces (found : Places) (s : ShapeTree) : Type 0 where
  pub brings : FindsBrought found.brought (spots s.imports)
  pub gives : FindsGiven found.given (spots s.exports)

abbrev pub ArePlaces : List Places → List ShapeTree → Type 0
ArePlaces [] [] = Unit {0}
ArePlaces (p ∷ ps) (s ∷ ss) = IsPlaces p s × ArePlaces ps ss
ArePlaces [] (s ∷ ss) = ⊥
ArePlaces (p ∷ ps) [] = ⊥

-- what was found of an instance, which is not there where nothing was
abbrev pub IsFound : Option (Bor Places) → ShapeTree → Type 0
IsFound found s = MatchOption found (s ≡ no_shape) (λ (p : Bor Places). IsPlaces p.now s)

abbrev pub input_cmp : Input → Input → Ordering
input_cmp a b = ordering_then (nat_cmp a.target b.target) (nat_cmp a.import b.import)

abbrev pub FindsWires : BTreeMap Input Wire → List Wire → Type 0
FindsWires found wires = (i : Input) → get input_cmp found i ≡ wire_into wires i.target i.import

abbrev pub wiring_of : Wired → Wiring
wiring_of found = record { shapes = shapes_of found.shapes.now; wires = found.list.now }

pub record IsWired (found : Wired) : Type 0 where
  pub places : ArePlaces found.places.items (shapes_of found.shapes.now)
  pub wires : FindsWires found.wires found.list.now
