use Rattle.std.proofs.Common.{ap, ◌∙◌}
use Rattle.std.specs.Prelude.{option_map}
use Rattle.compose_graph.specs.Graph.{InstanceEntry, instance_at}
use Rattle.compose_graph.specs.Listed.{InstanceList}
use Rattle.compose_graph.proofs.InstanceLaws.{component_found}
use Rattle.compose_graph.proofs.instances.Instances.component_of.Goals as goal

pub returns : goal.returns
returns c =
    c.copied.ensures ∙ c.get.ensures.value
    ∙ component_found c.self.inside.components.entries c.args.id
    ∙ ap (λ (l : InstanceList). option_map (λ (i : InstanceEntry). i.component) (instance_at l.entries c.args.id)) c.self.view_is
