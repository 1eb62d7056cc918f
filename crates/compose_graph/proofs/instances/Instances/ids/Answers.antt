use Rattle.std.proofs.Common.{◌∙◌, ap, map, ◌++◌, ℕ}
use Rattle.compose_graph.specs.Wiring.{instance_id}
use Rattle.compose_graph.specs.Listed.{InstanceList}
use Rattle.compose_graph.proofs.PlaceLaws.{instance_numbers}
use Rattle.compose_graph.proofs.instances.Instances.ids.Goals as goal

pub loop-id-init : goal.loop-id-init
loop-id-init c =
    (λ i. c.new-ids.ensures.items i ++ map (λ (e : ℕ × ℕ). e.0) (c.into_iter-id-iterator.ensures.into_iter_gives.0 i))
    ∙ instance_numbers c.self.inside.components.entries
    ∙ ap (λ (l : InstanceList). map instance_id l.entries) c.self.view_is
