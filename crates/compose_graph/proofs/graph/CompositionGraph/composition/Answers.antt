use Rattle.std.proofs.Common.{◌≡◌, ◌∙◌, ap, subst, map}
use Rattle.compose_graph.specs.Composed.{FindsPlaces, component_id, composed, composed_instance}
use Rattle.compose_graph.specs.Graph.{InstanceEntry}
use Rattle.compose_graph.specs.Listed.{HeldGraph, component_entries, graph_of}
use Rattle.compose_graph.specs.Wiring.{place_among, wire_of}
use Rattle.compose_graph.proofs.PartLaws.{twice}
use Rattle.compose_graph.proofs.graph.CompositionGraph.composition.Goals as goal

pub returns : goal.returns
returns c =
    let cs = component_entries c.self.inside.components.entries in
    let is = c.self.inside.instances.entries in
    let of_components = subst (FindsPlaces c.in_ok-components.components) (c.deref.ensures.value ∙ c.in_ok-component_ids.ensures) c.in_ok-components.ensures in
    let of_instances = subst (FindsPlaces c.in_ok-instances.instances) (c.deref-2.ensures.value ∙ c.in_ok-instance_ids.ensures) c.in_ok-instances.ensures in
    let made : c.in_ok-each.field-0.items ≡ map (composed_instance cs) is =
    c.in_ok-each.ensures (map component_id cs) of_components
    ∙ ap (map (place_among (map component_id cs))) (c.deref-3.ensures.value ∙ c.in_ok-made_of.ensures)
    ∙ twice (place_among (map component_id cs)) (λ (i : InstanceEntry). i.component) is in
    let wired : c.in_ok-wires.field-0.items ≡ map (wire_of is) c.self.inside.connections =
    c.in_ok-wires.ensures is of_instances ∙ ap (map (wire_of is)) c.list-2.ensures in
    (λ i. record { components = c.in_ok-list.ensures i; instances = made i; wires = wired i })
    ∙ ap (λ (g : HeldGraph). composed (graph_of g)) c.self.view_is
