-- A composition graph as instances that are wired, which are numbered in the order made, from 0 on.
use Rattle.std.specs.Prelude.{ℕ, suc, List, [], ◌∷◌, map, ◌==◌, if◌then◌else◌}
use Rattle.std.specs.Option.{option_map_or}
use Rattle.comp_entity.specs.Entity.{ShapeTree}
use Rattle.compose_left.specs.Wiring.{Wiring, no_shape}
use Rattle.compose_left.specs.declared.wiring.Wire.{Wire}
use Rattle.compose_graph.specs.Graph.{ComponentEntry, InstanceEntry, GraphTree, component_at}
use Rattle.compose_graph.specs.declared.connection.Connection.{Connection}

-- how many of some numbers stand in front of one
abbrev pub place_among : List ℕ → ℕ → ℕ
place_among [] id = 0
place_among (i ∷ ids) id = if id == i then 0 else suc (place_among ids id)

abbrev pub instance_id : InstanceEntry → ℕ
instance_id i = i.id

-- how many instances were made before this one and are there
abbrev pub place_of : List InstanceEntry → ℕ → ℕ
place_of is id = place_among (map instance_id is) id

abbrev pub shape_of_instance : List ComponentEntry → InstanceEntry → ShapeTree
shape_of_instance cs i = option_map_or (λ (c : ComponentEntry). c.shape) (component_at cs i.component) no_shape

abbrev pub wire_of : List InstanceEntry → Connection → Wire
wire_of is c = record { target = place_of is c.target; import = c.import; source = place_of is c.source; export = c.export }

abbrev pub wiring : GraphTree → Wiring
wiring g = record {
  shapes = map (shape_of_instance g.components) g.instances;
  wires = map (wire_of g.instances) g.connections;
}
