-- Where imports and exports name resources and types: the leaves of Places in comp_entity, each with what it names.
use Rattle.std.specs.Prelude.{ℕ, suc, true, false, List, [], ◌∷◌, ◌++◌, map, flat_map, Option, Some, None, option_map, option_to_list}
use Rattle.comp_entity.specs.Entity.{Name, ValueTree, Value, Resource, EntityTree, IsType, Entries}
use Rattle.comp_entity.specs.Fits.{place_of}
use Rattle.comp_entity.specs.Places.{Path, leaves_of, leaves_in}
use Rattle.compose_left.specs.declared.spots.Thing.{Thing}
use Rattle.compose_left.specs.declared.spots.Spot.{Spot}

-- a resource, and the place that named a type
abbrev pub resource : Name → Thing
resource n = record { is_type = false; out = n.out; number = n.number }

abbrev pub named_type : Name → Thing
named_type n = record { is_type = true; out = n.out; number = n.number }

abbrev pub placed_thing : ValueTree → Option Thing
placed_thing t = option_map named_type (place_of t)

-- what an entity brings or names as a type
abbrev pub named_by : EntityTree → Option Thing
named_by (IsType (Resource r)) = Some (resource r)
named_by (IsType (Value t)) = placed_thing t
named_by _ = None

-- the spots at a leaf of an import or export of this number and name
abbrev pub spots_of : ℕ → List ℕ → Path → EntityTree → List Spot
spots_of number name path e = map (λ t. record { number = number; name = name; path = path; what = t }) (option_to_list (named_by e))

abbrev pub spots_in : ℕ → List ℕ → Path → EntityTree → List Spot
spots_in number name path e = flat_map (λ leaf. spots_of number name leaf.0 leaf.1) (leaves_of path e)

abbrev pub inner_spots : ℕ → List ℕ → Path → Entries → List Spot
inner_spots number name path es = flat_map (λ leaf. spots_of number name leaf.0 leaf.1) (leaves_in path es)

-- the spots of imports, or of exports, numbered from here on
abbrev pub spots_from : ℕ → List (List ℕ × EntityTree) → List Spot
spots_from number [] = []
spots_from number (e ∷ es) = spots_in number e.0 [] e.1 ++ spots_from (suc number) es

abbrev pub spots : List (List ℕ × EntityTree) → List Spot
spots es = spots_from 0 es
