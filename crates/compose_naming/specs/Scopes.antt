-- Scopes that are open, as code holds them.
use Rattle.std.specs.Prelude.{◌≡◌, Bool, List, ◌∷◌, Option, Some, None, find, map, option_and_then, option_map, reverse, if◌then◌else◌}
use Rattle.std.specs.BTreeMap.{BTreeMap, get}
use Rattle.comp_entity.specs.Places.{Path}
use Rattle.comp_entity.specs.Views.{Sides}
use Rattle.compose_left.specs.Spots.{named_type}
use Rattle.compose_left.specs.Wired.{thing_cmp}
use Rattle.compose_left.specs.declared.path.Path.{Path as PathOf}
use Rattle.compose_left.specs.declared.spots.Thing.{Thing}
use Rattle.compose_needs.specs.declared.leaves.Leaf.{Leaf}
use Rattle.compose_order.specs.Known.{path_cmp}
use Rattle.compose_naming.specs.Bits.{Scope, behind_all, closed, is_at, opened}
use Rattle.compose_naming.specs.declared.scopes.Open.{Open}

abbrev pub scope_of : Open → Scope
scope_of o = record { width = o.width; bits = λ n. get thing_cmp o.bits (named_type n) }

-- the innermost is the last that is held
abbrev pub scopes_in : List Open → List Scope
scopes_in held = reverse (map scope_of held)

-- what is behind something that passes
abbrev pub where_passed : Bool → List Scope → Option (List Scope)
where_passed passes scopes = if passes then Some scopes else None

-- behind the imports and the exports of a component
abbrev pub behind_sides : Sides → List Scope → Option (List Scope)
behind_sides s scopes =
    option_and_then closed (option_and_then (behind_all s.exports) (behind_all s.imports (opened 2 ∷ scopes)))

-- what is named at paths, where something stands there
abbrev pub named_of : Leaf → Option Thing
named_of leaf = leaf.named

abbrev pub FindsPlaces : BTreeMap PathOf (Option Thing) → List Leaf → Type 0
FindsPlaces places leaves = (path : Path) → get path_cmp places path ≡ option_map named_of (find (is_at path) leaves)
