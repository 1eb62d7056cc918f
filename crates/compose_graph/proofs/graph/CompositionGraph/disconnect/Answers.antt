use Rattle.compose_graph.proofs.HeldLaws.{kept_disconnected}
use Rattle.compose_graph.proofs.graph.CompositionGraph.disconnect.Goals as goal

pub invariant_of-self : goal.invariant_of-self
invariant_of-self c =
    kept_disconnected c.self.inside.components c.self.inside.components c.self.inside.instances c.self.inside.instances c.self.inside.connections c.remove_between.new.self c.self.invariant
    c.args.source.0 c.args.target.0 c.args.target_import.0 c.remove_between.ensures

pub returns-clause-kept : goal.returns-clause-kept
returns-clause-kept c =
    kept_disconnected c.self.inside.components c.self.inside.components c.self.inside.instances c.self.inside.instances c.self.inside.connections c.remove_between.new.self c.self.invariant
    c.args.source.0 c.args.target.0 c.args.target_import.0 c.remove_between.ensures
