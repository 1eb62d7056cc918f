use Rattle.std.proofs.Common.{◌∙◌, ap, map, ◌++◌, ℕ}
use Rattle.compose_graph.specs.Graph.{ComponentEntry}
use Rattle.compose_graph.specs.Listed.{ComponentList, component_entries}
use Rattle.compose_graph.specs.declared.part.Part.{Part}
use Rattle.compose_graph.proofs.PlaceLaws.{component_numbers}
use Rattle.compose_graph.proofs.components.Components.ids.Goals as goal

pub loop-id-init : goal.loop-id-init
loop-id-init c =
    (λ i. c.new-ids.ensures.items i ++ map (λ (e : ℕ × Part). e.0) (c.into_iter-id-iterator.ensures.into_iter_gives.0 i))
    ∙ component_numbers c.self.inside.parts.entries
    ∙ ap (λ (l : ComponentList). map (λ (k : ComponentEntry). k.id) (component_entries l.entries)) c.self.view_is
