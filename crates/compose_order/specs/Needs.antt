-- Imports agree, third part: what a left import needs of others.
use Rattle.std.specs.Prelude.{ℕ, suc, Bool, false, ◌&&◌, ◌||◌, not, List, [], ◌∷◌, map, flat_map, filter, find, Option, Some, None, is_none, option_map, option_and_then, slice_get, if◌then◌else◌, bytes_eq}
use Rattle.std.specs.List.{list_all}
use Rattle.comp_entity.specs.Entity.{EntityTree}
use Rattle.comp_entity.specs.Places.{Path}
use Rattle.compose_left.specs.declared.spots.Spot.{Spot}
use Rattle.compose_left.specs.declared.spots.Thing.{Thing}
use Rattle.compose_left.specs.Origins.{same_path}
use Rattle.compose_needs.specs.declared.place.Place.{Place}
use Rattle.compose_needs.specs.declared.leaves.Leaf.{Leaf}
use Rattle.compose_needs.specs.Leaves.{leaves_at}
use Rattle.compose_needs.specs.Lefts.{Lefts}
use Rattle.compose_needs.specs.Mentioned.{has, mentioned}
use Rattle.compose_needs.specs.Tied.{are_tied, entity_holds_tied}

-- A left import: its name; what is written for it, with the numbers of origins in place; and what each of those that need
-- it names there.
pub record LeftTree : Type 0 where
  pub name : List ℕ
  pub entity : EntityTree
  pub calls : List Spot

abbrev pub is_at : Path → Spot → Bool
is_at path s = same_path s.path path

abbrev pub thing_of : Spot → Thing
thing_of s = s.what

-- what those that need an import name at a path
abbrev pub called_at : List Spot → Path → List Thing
called_at calls path = map thing_of (filter (is_at path) calls)

abbrev pub is_of : List ℕ → Option (List ℕ) → Bool
is_of name None = false
is_of name (Some m) = bytes_eq name m

-- An import brings a resource that is named there and whose origin is the import. It exports a named type that is named
-- there.
abbrev pub is_own : Lefts → LeftTree → Thing → Bool
is_own left l t = has (map thing_of l.calls) t && (t.is_type || is_of l.name (left t.number))

-- what has to be named at the place of a mention or an earlier one: what the import brings or exports. What is neither of
-- the import nor of another can't be had.
abbrev pub is_bound : Lefts → LeftTree → Thing → Bool
is_bound left l t = is_own left l t || is_none (left t.number)

-- what the import brings or exports at a place, and what has to be named there or earlier
abbrev pub left_place : Lefts → LeftTree → Leaf → Place
left_place left l leaf = record { named = filter (is_own left l) (called_at l.calls leaf.path); asked = filter (is_bound left l) leaf.mentioned }

abbrev pub left_places : Lefts → LeftTree → List Place
left_places left l = map (left_place left l) (leaves_at l.entity)

-- ---- the rule

-- Whether each thing that an import mentions can be had.
abbrev pub is_brought : Lefts → LeftTree → Bool
is_brought left l =
    are_tied [] (left_places left l) && entity_holds_tied l.entity

-- the names of the other imports of which an import needs something
abbrev pub other_name : List ℕ → Option (List ℕ) → List (List ℕ)
other_name name None = []
other_name name (Some m) = if bytes_eq name m then [] else m ∷ []

abbrev pub need_of : Lefts → LeftTree → Thing → List (List ℕ)
need_of left l t = if is_own left l t then [] else other_name l.name (left t.number)

abbrev pub needs : Lefts → LeftTree → List (List ℕ)
needs left l = flat_map (need_of left l) (mentioned l.entity)

-- the place of the first import of a name
abbrev pub place_named : List LeftTree → List ℕ → Option ℕ
place_named [] name = None
place_named (l ∷ ls) name = if bytes_eq name l.name then Some 0 else option_map suc (place_named ls name)
