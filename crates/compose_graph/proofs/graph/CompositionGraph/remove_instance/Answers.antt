use Rattle.compose_graph.proofs.HeldLaws.{kept_without_instance}
use Rattle.compose_graph.proofs.graph.CompositionGraph.remove_instance.Goals as goal

pub invariant_of-self : goal.invariant_of-self
invariant_of-self c =
    kept_without_instance c.self.inside.components c.self.inside.components c.self.inside.instances c.remove.new.self c.self.inside.connections c.remove_of_instance.new.self c.self.invariant
    c.args.id.0 c.remove.ensures c.remove_of_instance.ensures

pub returns-clause-kept : goal.returns-clause-kept
returns-clause-kept c =
    kept_without_instance c.self.inside.components c.self.inside.components c.self.inside.instances c.remove.new.self c.self.inside.connections c.remove_of_instance.new.self c.self.invariant
    c.args.id.0 c.remove.ensures c.remove_of_instance.ensures
