use Rattle.std.proofs.Common.{◌∙◌, ap, map, ◌++◌, ℕ}
use Rattle.compose_graph.specs.Graph.{InstanceEntry}
use Rattle.compose_graph.specs.Listed.{InstanceList}
use Rattle.compose_graph.proofs.PlaceLaws.{instances_of}
use Rattle.compose_graph.proofs.instances.Instances.components.Goals as goal

pub loop-component-init : goal.loop-component-init
loop-component-init c =
    (λ i. c.new-ids.ensures.items i ++ map (λ (e : ℕ × ℕ). e.1) (c.into_iter-component-iterator.ensures.into_iter_gives.0 i))
    ∙ instances_of c.self.inside.components.entries
    ∙ ap (λ (l : InstanceList). map (λ (i : InstanceEntry). i.component) l.entries) c.self.view_is
