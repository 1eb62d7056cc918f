use Rattle.std.proofs.Common.{◌≡◌, List, map, take}
use Rattle.compose_graph.specs.Composed.{FindsPlaces}
use Rattle.compose_graph.specs.Wiring.{instance_id, wire_of}
use Rattle.compose_graph.specs.Graph.{InstanceEntry}
use Rattle.compose_graph.proofs.composed.wires.Given as goal

abbrev pub invariant-loop-connection : goal.invariant-loop-connection
invariant-loop-connection l = (is : List InstanceEntry) → FindsPlaces l.instances (map instance_id is) → l.wires.items ≡ map (wire_of is) (take l.connection-index l.connections)
