-- Why instances of two components are not connected.
use Rattle.std.specs.Prelude.{Option, is_some, slice_get}
use Rattle.compose_component.specs.Component.{shape_of}
use Rattle.compose_component.specs.declared.component.Component.{Component}
use Rattle.compose_graph.specs.Graph.{GraphTree, ConnectFault, connection_into, fault_of_import}
use Rattle.compose_graph.specs.declared.connection.Connection.{Connection}

abbrev pub fault_at : GraphTree → Connection → Component → Component → Option ConnectFault
fault_at g c giving asking =
    fault_of_import (is_some (connection_into g.connections c.target c.import)) (shape_of giving) c
    (slice_get (shape_of asking).imports c.import)
