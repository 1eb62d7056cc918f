use Rattle.std.proofs.Common.{◌≡◌, ◌∙◌, ◌<◌, ap, sym, subst, length, rules, true}
use Rattle.std.specs.Prelude.{is_some, option_map}
use Rattle.compose_graph.specs.Graph.{InstanceEntry, instance_at}
use Rattle.compose_graph.specs.Listed.{HeldGraph, graph_of}
use Rattle.compose_graph.proofs.ComposedLaws.{instance_within}
use Rattle.compose_graph.proofs.graph.CompositionGraph.export_place.Goals as goal

pub returns-clause-there : goal.returns-clause-there
returns-clause-there c =
    let g = graph_of c.args.self.now in
    let held : c.component_of.result ≡ option_map (λ (i : InstanceEntry). i.component) (instance_at g.instances c.in-Some.id.0) =
    c.component_of.ensures ∙ ap (λ (h : HeldGraph). option_map (λ (i : InstanceEntry). i.component) (instance_at (graph_of h).instances c.in-Some.id.0)) c.self.view_is in
    let here : is_some c.component_of.result ≡ true = search rules in
    subst (λ n. n < length g.instances) (sym c.in_ok-place.ensures)
    (instance_within g.instances c.in-Some.id.0 (ap is_some (sym held) ∙ here))
