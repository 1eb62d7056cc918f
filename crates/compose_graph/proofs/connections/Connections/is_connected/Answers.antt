use Rattle.std.proofs.Common.{ap, ◌∙◌}
use Rattle.std.specs.Prelude.{is_some}
use Rattle.compose_graph.specs.Graph.{connection_into}
use Rattle.compose_graph.proofs.ConnectionLaws.{is_there}
use Rattle.compose_graph.proofs.connections.Connections.is_connected.Goals as goal

pub returns : goal.returns
returns c =
    c.contains_key.ensures
    ∙ is_there c.self.inside.list.items c.self.inside.sources (record { target = c.args.target; import = c.args.import }) c.self.invariant
    ∙ ap (λ cs. is_some (connection_into cs c.args.target c.args.import)) c.self.view_is
