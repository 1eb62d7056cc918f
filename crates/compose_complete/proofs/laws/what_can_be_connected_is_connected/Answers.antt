use Rattle.compose_graph.specs.Graph.{connect_fault}
use Rattle.compose_complete.proofs.RefusedLaws.{connected}
use Rattle.compose_complete.proofs.laws.what_can_be_connected_is_connected.Goals as goal

pub returns : goal.returns
returns c = λ g connection e none refused. connected (connect_fault g connection) e none refused
