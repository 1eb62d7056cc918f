use Rattle.std.proofs.Common.{◌∙◌, ap}
use Rattle.compose_graph.specs.Graph.{without_component}
use Rattle.compose_graph.specs.Listed.{HeldGraph, graph_of}
use Rattle.compose_graph.proofs.HeldLaws.{held_without_component, kept_without_component}
use Rattle.compose_graph.proofs.graph.CompositionGraph.remove_component.Goals as goal

pub invariant_of-self : goal.invariant_of-self
invariant_of-self c =
    kept_without_component c.self.inside.components c.remove.new.self c.self.inside.instances c.remove_of.new.self c.self.inside.connections c.remove_of_component.new.self c.self.invariant
    c.args.id.0 c.remove.ensures c.remove_of.ensures c.remove_of_component.ensures

pub returns-clause-removed : goal.returns-clause-removed
returns-clause-removed c =
    held_without_component c.self.inside.components c.remove.new.self c.self.inside.instances c.remove_of.new.self c.self.inside.connections c.remove_of_component.new.self
    c.args.id.0 c.remove.ensures c.remove_of.ensures c.remove_of_component.ensures
    ∙ ap (λ (g : HeldGraph). without_component (graph_of g) c.args.id.0) c.self.view_is

pub returns-clause-kept : goal.returns-clause-kept
returns-clause-kept c =
    kept_without_component c.self.inside.components c.remove.new.self c.self.inside.instances c.remove_of.new.self c.self.inside.connections c.remove_of_component.new.self c.self.invariant
    c.args.id.0 c.remove.ensures c.remove_of.ensures c.remove_of_component.ensures
