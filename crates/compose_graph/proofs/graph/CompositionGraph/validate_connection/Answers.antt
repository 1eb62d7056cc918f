use Rattle.std.proofs.Common.{◌≡◌, ◌∙◌, ap, subst, sym, false}
use Rattle.std.specs.Prelude.{◌==◌, Option, IfErr}
use Rattle.compose_graph.specs.Faults.{fault_at}
use Rattle.compose_graph.specs.Graph.{ConnectFault}
use Rattle.compose_graph.specs.Joining.{joining}
use Rattle.compose_graph.specs.Listed.{component_entry, graph_of, held_component}
use Rattle.compose_graph.specs.Refusal.{IsConnectRefusal}
use Rattle.compose_graph.specs.declared.connection.Connection.{Connection}
use Rattle.compose_graph.proofs.FaultLaws.{of_instance_there, fault_here, ne_false}
use Rattle.compose_graph.proofs.graph.CompositionGraph.validate_connection.Goals as goal

pub validate_between-requires-clause-giving : goal.validate_between-requires-clause-giving
validate_between-requires-clause-giving c =
    of_instance_there (graph_of c.args.self.now) c.args.source.0 (component_entry (held_component c.in-Some.giving.0.0 c.in-Some.giving.1.now)) c.in-Some.ensures

pub validate_between-requires-clause-asking : goal.validate_between-requires-clause-asking
validate_between-requires-clause-asking c =
    of_instance_there (graph_of c.args.self.now) c.args.target.0 (component_entry (held_component c.in-Some-get_component_of_instance.asking.0.0 c.in-Some-get_component_of_instance.asking.1.now)) c.in-Some-get_component_of_instance.ensures

pub returns-clause-refused : goal.returns-clause-refused
returns-clause-refused c =
    let differ : (c.args.source.0 == c.args.target.0) ≡ false =
    ap (λ (k : Connection). k.source == k.target) (sym c.joining-connection.ensures)
    ∙ ne_false c.joining-connection.result.source c.joining-connection.result.target c.if-connection.false in
    subst (λ (f : Option ConnectFault). IfErr c.validate_between.result (IsConnectRefusal f))
    (ap (λ (k : Connection). fault_at (graph_of c.args.self.now) k c.in-Some.giving.1.now c.in-Some-get_component_of_instance.asking.1.now) c.joining-connection.ensures
    ∙ fault_here (graph_of c.args.self.now) (joining c.args.source c.args.source_export c.args.target c.args.target_import)
    (component_entry (held_component c.in-Some.giving.0.0 c.in-Some.giving.1.now))
    (component_entry (held_component c.in-Some-get_component_of_instance.asking.0.0 c.in-Some-get_component_of_instance.asking.1.now))
    differ c.in-Some.ensures c.in-Some-get_component_of_instance.ensures)
    c.validate_between.ensures.refused
