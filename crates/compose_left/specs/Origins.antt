-- Origin: where a resource or a named type of an instance comes from. At a path of an import that is wired, it is what
-- the source of the wire exports there; of an import that is left open, it is the import's.
use Rattle.std.specs.Prelude.{ℕ, zero, suc, ◌+◌, ◌*◌, Bool, true, false, ◌&&◌, ◌||◌, List, [], ◌∷◌, ◌++◌, length, map, find, fold, Option, Some, None, option_map, option_and_then, slice_get, ◌/◌, ◌%◌, ◌==◌, if◌then◌else◌, bytes_eq}
use Rattle.std.specs.List.{list_any}
use Rattle.std.specs.Cmp.Lexicographic.{pointwise}
use Rattle.comp_entity.specs.Entity.{Name, made, EntityTree, ShapeTree}
use Rattle.comp_entity.specs.Names.{changing, entity_by}
use Rattle.comp_entity.specs.Fits.{same_truth}
use Rattle.comp_entity.specs.Places.{Path}
use Rattle.compose_left.specs.declared.wiring.Wire.{Wire}
use Rattle.compose_left.specs.declared.spots.Thing.{Thing}
use Rattle.compose_left.specs.declared.spots.Spot.{Spot}
use Rattle.compose_left.specs.declared.origin.Origin.{Origin}
use Rattle.compose_left.specs.declared.origin.Origin.TheVariants as origins
use Rattle.compose_left.specs.declared.origin.Held.{Held}
use Rattle.compose_left.specs.declared.origin.Step.{Step}
use Rattle.compose_left.specs.declared.origin.Step.TheVariants as step
use Rattle.compose_left.specs.Wiring.{Wiring, shape_at, wire_into}
use Rattle.compose_left.specs.Spots.{resource, named_type, spots}

abbrev pub same_path : Path → Path → Bool
same_path = pointwise bytes_eq

abbrev pub same_thing : Thing → Thing → Bool
same_thing a b = same_truth a.is_type b.is_type && ((a.out == b.out) && (a.number == b.number))

abbrev pub names : Thing → Spot → Bool
names t s = same_thing s.what t

-- where an instance's imports bring a thing first
abbrev pub brought_at : ShapeTree → Thing → Option Spot
brought_at s t = if t.out == 1 then find (names t) (spots s.imports) else None

-- a path of what a wire takes, as one of its source's exports: it takes a whole instance, or one export
abbrev pub export_name : ShapeTree → Option ℕ → Option (List ℕ)
export_name s None = None
export_name s (Some e) = option_map (λ (x : List ℕ × EntityTree). x.0) (slice_get s.exports e)

abbrev pub behind : Option (List ℕ) → Path → Path
behind None path = path
behind (Some name) path = name ∷ path

abbrev pub given_path : ShapeTree → Option ℕ → Path → Path
given_path s export path = behind (export_name s export) path

abbrev pub is_exported_at : Bool → Path → Spot → Bool
is_exported_at is_type path s = same_truth s.what.is_type is_type && same_path (s.name ∷ s.path) path

-- what an instance's exports name at a path: a resource, or a type
abbrev pub given_at : ShapeTree → Bool → Path → Option Thing
given_at s is_type path = option_map (λ (x : Spot). x.what) (find (is_exported_at is_type path) (spots s.exports))

abbrev pub of_given : ℕ → Path → Option Thing → Step
of_given source path None = step.Ends (origins.Given source path)
of_given source path (Some t) = step.Goes (record { instance = source; thing = t })

abbrev pub given_from : ShapeTree → Wire → Bool → Path → Step
given_from s wire is_type path = of_given wire.source path (given_at s is_type path)

abbrev pub along : Wiring → Spot → Option Wire → Step
along w s None = step.Ends (origins.Left s.name s.path)
along w s (Some wire) =
    given_from (shape_at w.shapes wire.source) wire s.what.is_type (given_path (shape_at w.shapes wire.source) wire.export s.path)

abbrev pub of_brought : Wiring → Held → Option Spot → Step
of_brought w h None = step.Ends (origins.Made h.instance h.thing.number)
of_brought w h (Some s) = along w s (wire_into w.wires h.instance s.number)

-- where a thing comes from, or what it is one wire further on
abbrev pub step_from : Wiring → Held → Step
step_from w h = of_brought w h (brought_at (shape_at w.shapes h.instance) h.thing)

abbrev pub follow : (Held → Origin) → Step → Origin
follow further (step.Ends o) = o
follow further (step.Goes h) = further h

-- The origin, along fewer wires than this. Without a circle, as many as there are instances are enough.
unfoldable pub origin_within : ℕ → Wiring → Held → Origin
origin_within zero w h = origins.Made h.instance h.thing.number
origin_within (suc k) w h = follow (origin_within k w) (step_from w h)

abbrev pub origin : Wiring → Held → Origin
origin w h = origin_within (suc (length w.shapes)) w h

-- ---- numbers for origins

abbrev pub same_origin : Origin → Origin → Bool
same_origin (origins.Left n x) (origins.Left m y) = bytes_eq n m && same_path x y
same_origin (origins.Made i n) (origins.Made j m) = (i == j) && (n == m)
same_origin (origins.Given i x) (origins.Given j y) = (i == j) && same_path x y
same_origin _ _ = false

abbrev pub is_made : Origin → Bool
is_made (origins.Made i n) = true
is_made _ = false

abbrev pub with_origin : List Origin → Origin → List Origin
with_origin os o = if is_made o || list_any (λ p. same_origin p o) os then os else os ++ o ∷ []

-- what the imports of instances bring, in the order of instances and of imports
abbrev pub held_at : ℕ → Spot → Held
held_at i s = record { instance = i; thing = s.what }

abbrev pub brought_from : ℕ → List ShapeTree → List Held
brought_from i [] = []
brought_from i (s ∷ ss) = map (held_at i) (spots s.imports) ++ brought_from (suc i) ss

-- each origin once that something brought has, and that no instance makes
abbrev pub table_of : Wiring → List Held → List Origin
table_of w hs = fold (λ os h. with_origin os (origin w h)) [] hs

abbrev pub table : Wiring → List Origin
table w = table_of w (brought_from 0 w.shapes)

abbrev pub place_in : List Origin → Origin → ℕ
place_in [] o = 0
place_in (first ∷ rest) o = if same_origin first o then 0 else suc (place_in rest o)

-- The number of an origin: no two have one. What instances make counts in turn with what is in the table.
abbrev pub number_in : ℕ → List Origin → Origin → ℕ
number_in instances os (origins.Made i n) = n * suc instances + i
number_in instances os o = place_in os o * suc instances + instances

abbrev pub number_of : Wiring → Held → ℕ
number_of w h = number_in (length w.shapes) (table w) (origin w h)

abbrev pub of_resource : Wiring → ℕ → Name → Name
of_resource w i n = made (number_of w (record { instance = i; thing = resource n }))

abbrev pub of_type : Wiring → ℕ → Name → Name
of_type w i n = made (number_of w (record { instance = i; thing = named_type n }))

-- an entity of an instance, with the numbers of origins in place
abbrev pub placed : Wiring → ℕ → EntityTree → EntityTree
placed w i e = entity_by (changing (of_resource w i) (of_type w i)) 0 e

-- the left import of an origin, and that of the origin of a number
abbrev pub import_of : Origin → Option (List ℕ)
import_of (origins.Left n x) = Some n
import_of _ = None

abbrev pub import_at : ℕ → List Origin → ℕ → Option (List ℕ)
import_at instances os n = if n % suc instances == instances then option_and_then import_of (slice_get os (n / suc instances)) else None
