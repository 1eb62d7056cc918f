use Rattle.std.proofs.Common.{◌∙◌, ap, map, ◌++◌, ℕ}
use Rattle.compose_check.specs.Composition.{component_tree}
use Rattle.compose_graph.specs.Composed.{composed_component}
use Rattle.compose_graph.specs.Listed.{ComponentList, component_entries, entry_of}
use Rattle.compose_graph.specs.declared.part.Part.{Part}
use Rattle.compose_graph.proofs.PlaceLaws.{components_listed}
use Rattle.compose_graph.proofs.components.Components.list.Goals as goal

pub loop-part-init : goal.loop-part-init
loop-part-init c =
    (λ i. map component_tree (c.new-list.ensures.items i) ++ map (λ (e : ℕ × Part). composed_component (entry_of e.0 e.1.component)) (c.into_iter-part-iterator.ensures.into_iter_gives.0 i))
    ∙ components_listed c.self.inside.parts.entries
    ∙ ap (λ (l : ComponentList). map composed_component (component_entries l.entries)) c.self.view_is
