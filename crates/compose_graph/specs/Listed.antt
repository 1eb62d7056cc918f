-- Instances and components of a graph, as the calls hold them.
use Rattle.std.specs.Prelude.{ℕ, List, map}
use Rattle.comp_entity.specs.declared.entity.Shape.{Shape}
use Rattle.comp_entity.specs.Views.{shape_tree}
use Rattle.compose_component.specs.Component.{name_of, bytes_of, held_shape}
use Rattle.compose_component.specs.declared.component.Component.{Component}
use Rattle.compose_graph.specs.Graph.{ComponentEntry, InstanceEntry, GraphTree}
use Rattle.compose_graph.specs.declared.connection.Connection.{Connection}

-- the instances that are there, and the number of the next one
pub record InstanceList : Type 0 where
  pub entries : List InstanceEntry
  pub next : ℕ

abbrev pub instance_entry : ℕ × ℕ → InstanceEntry
instance_entry e = record { id = e.0; component = e.1 }

abbrev pub instance_list : List (ℕ × ℕ) → ℕ → InstanceList
instance_list es next = record { entries = map instance_entry es; next = next }

-- a component under its number, by what it shows
pub record HeldComponent : Type 0 where
  pub id : ℕ
  pub name : List ℕ
  pub bytes : List ℕ
  pub shape : Shape

-- the components that are there, and the number of the next one
pub record ComponentList : Type 0 where
  pub entries : List HeldComponent
  pub next : ℕ

abbrev pub held_component : ℕ → Component → HeldComponent
held_component id c = record { id = id; name = name_of c; bytes = bytes_of c; shape = held_shape c }

-- a component as the graph has it
abbrev pub component_entry : HeldComponent → ComponentEntry
component_entry c = record { id = c.id; name = c.name; bytes = c.bytes; shape = shape_tree c.shape }

-- a component of this number, as the graph has it
abbrev pub entry_of : ℕ → Component → ComponentEntry
entry_of id c = component_entry (held_component id c)

abbrev pub component_entries : List HeldComponent → List ComponentEntry
component_entries cs = map component_entry cs

-- a graph as it is held
pub record HeldGraph : Type 0 where
  pub components : ComponentList
  pub instances : InstanceList
  pub connections : List Connection

abbrev pub held_graph : ComponentList → InstanceList → List Connection → HeldGraph
held_graph components instances connections = record { components = components; instances = instances; connections = connections }

-- the graph that is held
abbrev pub graph_of : HeldGraph → GraphTree
graph_of g = record {
  components = component_entries g.components.entries;
  instances = g.instances.entries;
  connections = g.connections;
  next_component = g.components.next;
  next_instance = g.instances.next;
}
