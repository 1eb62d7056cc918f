-- Imports agree, last parts: what exports may mention.
use Rattle.std.specs.Prelude.{ℕ, Bool, ◌&&◌, not, List, [], ◌∷◌, ◌++◌, map, flat_map, filter, Option, Some, None, is_none, option_to_list, if◌then◌else◌}
use Rattle.comp_entity.specs.Entity.{EntityTree, ShapeTree}
use Rattle.compose_left.specs.declared.spots.Thing.{Thing}
use Rattle.compose_needs.specs.declared.leaves.Leaf.{Leaf}
use Rattle.compose_needs.specs.declared.place.Place.{Place}
use Rattle.compose_needs.specs.Leaves.{leaves_at}
use Rattle.compose_needs.specs.Lefts.{Lefts}
use Rattle.compose_needs.specs.Tied.{are_tied, named_in, near_place, entity_holds_tied}

abbrev pub NamedEntity : Type 0
NamedEntity = List ℕ × EntityTree

abbrev pub NamedEntities : Type 0
NamedEntities = List NamedEntity

-- a resource that no left import brings
abbrev pub is_made : Lefts → Thing → Bool
is_made left t = not t.is_type && is_none (left t.number)

abbrev pub given_place : Lefts → Leaf → Place
given_place left l = record { named = option_to_list l.named; asked = filter (is_made left) l.mentioned }

abbrev pub given_places : Lefts → EntityTree → List Place
given_places left e = map (given_place left) (leaves_at e)

-- Each resource in the exports of an instance is left, or is exported there or earlier; else the name of the first export
-- that mentions another.
abbrev pub export_hides : Lefts → List Thing → NamedEntities → Option (List ℕ)
export_hides left seen [] = None
export_hides left seen (e ∷ es) =
    if are_tied seen (given_places left e.1) then export_hides left (seen ++ named_in (given_places left e.1)) es else Some e.0

abbrev pub own_places : EntityTree → List Place
own_places e = map near_place (leaves_at e)

-- Over the imports, and then the exports, of a component that is imported: what is mentioned is brought or exported there
-- or earlier, in the components within it too; else the name of the first import or export that mentions another thing.
abbrev pub is_side_tied : List Thing → EntityTree → Bool
is_side_tied seen e = are_tied seen (own_places e) && entity_holds_tied e

abbrev pub side_hides : List Thing → NamedEntities → Option (List ℕ)
side_hides seen [] = None
side_hides seen (e ∷ es) = if is_side_tied seen e.1 then side_hides (seen ++ named_in (own_places e.1)) es else Some e.0

-- what imports or exports name
abbrev pub sides_named : NamedEntities → List Thing
sides_named es = flat_map (λ (e : NamedEntity). named_in (own_places e.1)) es

abbrev pub component_hides : ShapeTree → Option (List ℕ)
component_hides s = side_hides [] (s.imports ++ s.exports)
