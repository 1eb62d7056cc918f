-- A composition graph as a composition: components and instances by their places.
use Rattle.std.specs.Prelude.{◌≡◌, ℕ, List, map, unwrap_or}
use Rattle.std.specs.BTreeMap.{get}
use Rattle.std.specs.Ordering.{nat_cmp}
use Rattle.compose_check.specs.Composition.{ComponentTree, CompositionTree}
use Rattle.compose_graph.specs.Graph.{ComponentEntry, InstanceEntry, GraphTree}
use Rattle.compose_graph.specs.Wiring.{place_among, wire_of}
use Rattle.compose_graph.specs.declared.places.Places.{Places}

abbrev pub component_id : ComponentEntry → ℕ
component_id c = c.id

abbrev pub composed_component : ComponentEntry → ComponentTree
composed_component c = record { name = c.name; bytes = c.bytes; shape = c.shape }

abbrev pub composed_instance : List ComponentEntry → InstanceEntry → ℕ
composed_instance cs i = place_among (map component_id cs) i.component

abbrev pub composed : GraphTree → CompositionTree
composed g = record {
  components = map composed_component g.components;
  instances = map (composed_instance g.components) g.instances;
  wires = map (wire_of g.instances) g.connections;
}

-- the places of some numbers, found by a map
abbrev pub FindsPlaces : Places → List ℕ → Type 0
FindsPlaces p ids = (id : ℕ) → unwrap_or (get nat_cmp p.found id) p.count ≡ place_among ids id
