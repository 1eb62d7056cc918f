use Rattle.std.proofs.Common.{◌∙◌}
use Rattle.compose_graph.specs.Graph.{connect_fault}
use Rattle.compose_graph.specs.Listed.{graph_of}
use Rattle.compose_graph.proofs.HeldLaws.{kept_connected}
use Rattle.compose_graph.proofs.graph.CompositionGraph.connect.Goals as goal

pub invariant_of-self-2 : goal.invariant_of-self-2
invariant_of-self-2 c =
    kept_connected c.self.inside.components c.self.inside.components c.self.inside.instances c.self.inside.instances c.self.inside.connections c.add.new.self c.self.invariant
    c.joining-connection.result c.in_ok-add.ensures.added
    ((λ i. connect_fault (graph_of (c.self.view_is i)) (c.joining-connection.ensures i)) ∙ c.in_ok-validate_connection.ensures.fits)

pub returns-clause-kept : goal.returns-clause-kept
returns-clause-kept c =
    kept_connected c.self.inside.components c.self.inside.components c.self.inside.instances c.self.inside.instances c.self.inside.connections c.add.new.self c.self.invariant
    c.joining-connection.result c.in_ok-add.ensures.added
    ((λ i. connect_fault (graph_of (c.self.view_is i)) (c.joining-connection.ensures i)) ∙ c.in_ok-validate_connection.ensures.fits)
