-- A composition graph: components, instances of them, and connections between these, each in the order added or made.
use Rattle.std.specs.Prelude.{ℕ, suc, Bool, false, ◌&&◌, ◌||◌, not, List, [], ◌∷◌, ◌++◌, filter, find, Option, Some, None, is_some, option_and_then, slice_get, ◌==◌, if◌then◌else◌}
use Rattle.std.specs.Option.{option_map_or}
use Rattle.std.specs.Str.{bytes_eq}
use Rattle.comp_entity.specs.Entity.{EntityTree, IsInstance, ShapeTree}
use Rattle.comp_entity.specs.Fits.{fits_loosely}
use Rattle.compose_fit.specs.Wires.{Given, Whole, Export, given_of}
use Rattle.compose_graph.specs.declared.connection.Connection.{Connection}

-- a component under its number
pub record ComponentEntry : Type 0 where
  pub id : ℕ
  pub name : List ℕ
  pub bytes : List ℕ
  pub shape : ShapeTree

-- an instance under its number, and the number of its component
pub record InstanceEntry : Type 0 where
  pub id : ℕ
  pub component : ℕ

-- how many numbers were given stands beside the lists, so that none is given twice
pub record GraphTree : Type 0 where
  pub components : List ComponentEntry
  pub instances : List InstanceEntry
  pub connections : List Connection
  pub next_component : ℕ
  pub next_instance : ℕ

abbrev pub no_graph : GraphTree
no_graph = record { components = []; instances = []; connections = []; next_component = 0; next_instance = 0 }

abbrev pub component_at : List ComponentEntry → ℕ → Option ComponentEntry
component_at cs id = find (λ (c : ComponentEntry). id == c.id) cs

abbrev pub component_named : List ComponentEntry → List ℕ → Option ComponentEntry
component_named cs name = find (λ (c : ComponentEntry). bytes_eq name c.name) cs

abbrev pub instance_at : List InstanceEntry → ℕ → Option InstanceEntry
instance_at is id = find (λ (i : InstanceEntry). id == i.id) is

-- the component of an instance, by the lists of both
abbrev pub made_from : List ComponentEntry → List InstanceEntry → ℕ → Option ComponentEntry
made_from cs is id = option_and_then (λ (i : InstanceEntry). component_at cs i.component) (instance_at is id)

abbrev pub component_of : GraphTree → ℕ → Option ComponentEntry
component_of g id = made_from g.components g.instances id

-- ---- what the calls make of a graph

abbrev pub with_component : GraphTree → List ℕ → List ℕ → ShapeTree → GraphTree
with_component g name bytes shape = record g {
  components = g.components ++ (record { id = g.next_component; name = name; bytes = bytes; shape = shape }) ∷ [];
  next_component = suc g.next_component;
}

abbrev pub with_instance : GraphTree → ℕ → GraphTree
with_instance g component = record g {
  instances = g.instances ++ (record { id = g.next_instance; component = component }) ∷ [];
  next_instance = suc g.next_instance;
}

-- a connection comes from an instance, or goes to it
abbrev pub touches : ℕ → Connection → Bool
touches id c = (c.source == id) || (c.target == id)

-- without an instance, and without its connections
abbrev pub without_instance : GraphTree → ℕ → GraphTree
without_instance g id = record g {
  instances = filter (λ (i : InstanceEntry). not (id == i.id)) g.instances;
  connections = filter (λ c. not (touches id c)) g.connections;
}

-- an instance is one of this component
abbrev pub is_of : List InstanceEntry → ℕ → ℕ → Bool
is_of is component id = option_map_or (λ (i : InstanceEntry). i.component == component) (instance_at is id) false

-- without a component, without its instances, and without their connections
abbrev pub touches_any_of : List InstanceEntry → ℕ → Connection → Bool
touches_any_of is component c = is_of is component c.source || is_of is component c.target

abbrev pub without_component : GraphTree → ℕ → GraphTree
without_component g id = record g {
  components = filter (λ (c : ComponentEntry). not (id == c.id)) g.components;
  instances = filter (λ (i : InstanceEntry). not (i.component == id)) g.instances;
  connections = filter (λ c. not (touches_any_of g.instances id c)) g.connections;
}

abbrev pub with_connection : GraphTree → Connection → GraphTree
with_connection g c = record g { connections = g.connections ++ c ∷ [] }

abbrev pub is_between : ℕ → ℕ → ℕ → Connection → Bool
is_between source target import c = (c.source == source) && (c.target == target) && (c.import == import)

abbrev pub without_connection : GraphTree → ℕ → ℕ → ℕ → GraphTree
without_connection g source target import =
    record g { connections = filter (λ c. not (is_between source target import c)) g.connections }

-- ---- which connection is refused, and why: the first cause that holds

abbrev pub is_into : ℕ → ℕ → Connection → Bool
is_into target import c = (c.target == target) && (c.import == import)

-- the connection into an import, where there is one
abbrev pub connection_into : List Connection → ℕ → ℕ → Option Connection
connection_into cs target import = find (is_into target import) cs

pub data ConnectFault : Type 0 where
  SelfConnection : ConnectFault
  NoSource : ConnectFault
  NoTarget : ConnectFault
  BadImportIndex : ConnectFault
  AlreadyConnected : ConnectFault
  BadExportIndex : ConnectFault
  NotCompatible : ConnectFault

-- what is given, as one entity
abbrev pub given_entity : Given → EntityTree
given_entity (Whole exports) = IsInstance exports
given_entity (Export name e) = e

-- resources being taken as one, and the places that named types set aside
abbrev pub fault_of_fit : EntityTree → Given → Option ConnectFault
fault_of_fit asked given = if fits_loosely (given_entity given) asked then None else Some NotCompatible

abbrev pub fault_of_offer : EntityTree → Option Given → Option ConnectFault
fault_of_offer asked None = Some BadExportIndex
fault_of_offer asked (Some given) = fault_of_fit asked given

-- whether the import is connected stands between the two places
abbrev pub fault_of_import : Bool → ShapeTree → Connection → Option (List ℕ × EntityTree) → Option ConnectFault
fault_of_import taken source c None = Some BadImportIndex
fault_of_import taken source c (Some asked) =
    if taken then Some AlreadyConnected else fault_of_offer asked.1 (given_of source c.export)

abbrev pub fault_between : Bool → Connection → Option ComponentEntry → Option ComponentEntry → Option ConnectFault
fault_between taken c None target = Some NoSource
fault_between taken c (Some source) None = Some NoTarget
fault_between taken c (Some source) (Some target) =
    fault_of_import taken source.shape c (slice_get target.shape.imports c.import)

abbrev pub connect_fault : GraphTree → Connection → Option ConnectFault
connect_fault g c =
    if c.source == c.target then Some SelfConnection
    else fault_between (is_some (connection_into g.connections c.target c.import)) c (component_of g c.source) (component_of g c.target)
