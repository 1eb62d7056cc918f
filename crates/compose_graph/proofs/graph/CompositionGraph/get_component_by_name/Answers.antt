use Rattle.std.proofs.Common.{◌∙◌, ap}
use Rattle.compose_graph.specs.Graph.{component_named}
use Rattle.compose_graph.specs.Listed.{HeldGraph, component_entries}
use Rattle.compose_graph.proofs.NameLaws.{named_there}
use Rattle.compose_graph.proofs.graph.CompositionGraph.get_component_by_name.Goals as goal

pub returns-in_err-component : goal.returns-in_err-component
returns-in_err-component c =
    rw c.from_residual-in_err-component.ensures
    (c.in_err-component.ensures
    ∙ named_there c.self.inside.components.next (component_entries c.self.inside.components.entries) c.args.name.now c.in_ok-id.id c.self.invariant.component_ids c.in_ok-id.ensures
    ∙ ap (λ (g : HeldGraph). component_named (component_entries g.components.entries) c.args.name.now) c.self.view_is)

pub returns : goal.returns
returns c =
    c.in_ok-component.ensures
    ∙ named_there c.self.inside.components.next (component_entries c.self.inside.components.entries) c.args.name.now c.in_ok-id.id c.self.invariant.component_ids c.in_ok-id.ensures
    ∙ ap (λ (g : HeldGraph). component_named (component_entries g.components.entries) c.args.name.now) c.self.view_is
