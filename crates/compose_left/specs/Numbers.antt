-- Numbers for origins as maps keep them.
use Rattle.std.specs.Prelude.{◌≡◌, ℕ, suc, ◌<◌, Bool, true, false, ◌&&◌, ◌||◌, List, [], ◌∷◌, length, Option, Some, None, option_map, is_some, ◌==◌, if◌then◌else◌, bytes_eq}
use Rattle.std.specs.List.{list_any, AllByRecursion}
use Rattle.std.specs.BTreeMap.{BTreeMap, get}
use Rattle.std.specs.Cmp.Lexicographic.{pointwise, slice_cmp}
use Rattle.std.specs.Ordering.{bool_cmp, nat_cmp, ordering_then}
use Rattle.std.specs.declared.cmp.Ordering.{Ordering}
use Rattle.comp_entity.specs.Fits.{same_truth}
use Rattle.compose_left.specs.declared.origin.Origin.{Origin}
use Rattle.compose_left.specs.declared.origin.Origin.TheVariants as origins
use Rattle.compose_left.specs.declared.origin.Held.{Held}
use Rattle.compose_left.specs.declared.numbering.OriginKey.{OriginKey}
use Rattle.compose_left.specs.declared.numbering.Reached.{Reached}
use Rattle.compose_left.specs.declared.numbering.Reached.TheVariants as reached
use Rattle.compose_left.specs.declared.numbering.Followed.{Followed}
use Rattle.compose_left.specs.declared.known.Origins.{Origins}
use Rattle.compose_left.specs.Wiring.{Wiring}
use Rattle.compose_left.specs.Wired.{thing_cmp}
use Rattle.compose_left.specs.Origins.{origin, same_thing, is_made, same_origin, number_in, with_origin, table_of, brought_from}

abbrev pub origin_key : Origin → OriginKey
origin_key (origins.Left n x) = record { is_given = false; instance = 0; path = n ∷ x }
origin_key (origins.Given i x) = record { is_given = true; instance = i; path = x }
origin_key (origins.Made i n) = record { is_given = false; instance = 0; path = [] }

abbrev pub same_key : OriginKey → OriginKey → Bool
same_key a b = same_truth a.is_given b.is_given && ((a.instance == b.instance) && pointwise bytes_eq a.path b.path)

abbrev pub key_cmp : OriginKey → OriginKey → Ordering
key_cmp a b = ordering_then (bool_cmp a.is_given b.is_given) (ordering_then (nat_cmp a.instance b.instance) (slice_cmp (slice_cmp nat_cmp) a.path b.path))

-- the place of the first origin of a key
abbrev pub key_place : OriginKey → List Origin → Option ℕ
key_place k [] = None
key_place k (o ∷ os) = if same_key (origin_key o) k then Some 0 else option_map suc (key_place k os)

abbrev pub FindsOrigins : BTreeMap OriginKey ℕ → List Origin → Type 0
FindsOrigins places os = (k : OriginKey) → get key_cmp places k ≡ key_place k os

abbrev pub same_held : Held → Held → Bool
same_held a b = (a.instance == b.instance) && same_thing a.thing b.thing

abbrev pub held_cmp : Held → Held → Ordering
held_cmp a b = ordering_then (nat_cmp a.instance b.instance) (thing_cmp a.thing b.thing)

-- an origin has a number: an instance makes it, or it is in the table
abbrev pub IsThere : List Origin → Origin → Type 0
IsThere os o = (is_made o || list_any (λ p. same_origin p o) os) ≡ true

-- each number that is noted is that of its thing's origin
pub record IsNoted (w : Wiring) (os : List Origin) (h : Held) (k : ℕ) : Type 0 where
  pub there : IsThere os (origin w h)
  pub number : k ≡ number_in (length w.shapes) os (origin w h)

abbrev pub Numbers : Type 0
Numbers = BTreeMap Held ℕ

abbrev pub AreNumbers : Wiring → List Origin → BTreeMap Held ℕ → Type 0
AreNumbers w os numbers = (h : Held) (k : ℕ) → get held_cmp numbers h ≡ Some k → IsNoted w os h k

-- what was come to has the origin
abbrev pub IsReached : Wiring → BTreeMap Held ℕ → Origin → Reached → Type 0
IsReached w numbers o (reached.Ends p) = p ≡ o
IsReached w numbers o (reached.Known k) = (h : Held) × (get held_cmp numbers h ≡ Some k) × (origin w h ≡ o)

pub record IsFollowed (w : Wiring) (numbers : BTreeMap Held ℕ) (from : Held) (f : Followed) : Type 0 where
  pub alike : AllByRecursion (λ h. origin w h ≡ origin w from) f.trail.items
  pub noted : (list_any (λ t. same_held t from) f.trail.items || is_some (get held_cmp numbers from)) ≡ true
  pub reached : IsReached w numbers (origin w from) f.reached

-- an origin got a number, and was added to the table where it was not there
pub record IsNumbered (w : Wiring) (old new : List Origin) (o : Origin) (n : ℕ) : Type 0 where
  pub added : new ≡ with_origin old o
  pub number : n ≡ number_in (length w.shapes) new o
  pub there : IsThere new o

-- some things are noted, each with the number of its origin
pub record AreNoted (o : Origins) (w : Wiring) (hs : List Held) : Type 0 where
  pub instances : o.instances ≡ length w.shapes
  pub origins : o.table.items ≡ table_of w hs
  pub numbers : AreNumbers w o.table.items o.numbers
  pub all : AllByRecursion (λ h. is_some (get held_cmp o.numbers h) ≡ true) hs

-- what the imports of instances bring is noted
abbrev pub AreOrigins : Origins → Wiring → Type 0
AreOrigins o w = AreNoted o w (brought_from 0 w.shapes)

abbrev pub OriginList : Type 0
OriginList = List Origin

-- an origin that has a number: an instance below this count makes it, or it is in the table
abbrev pub HasNumber : ℕ → OriginList → Origin → Type 0
HasNumber instances os (origins.Made i n) = i < instances
HasNumber instances os o = list_any (λ p. same_origin p o) os ≡ true
