use Rattle.std.proofs.Common.{◌≡◌, ◌++◌, ℕ, map}
use Rattle.compose_check.specs.Composition.{component_tree}
use Rattle.compose_graph.specs.Composed.{composed_component}
use Rattle.compose_graph.specs.Listed.{component_entries, entry_of}
use Rattle.compose_graph.specs.declared.part.Part.{Part}
use Rattle.compose_graph.proofs.components.Components.list.Given as goal

abbrev pub invariant-loop-part : goal.invariant-loop-part
invariant-loop-part l = map component_tree l.list.items ++ map (λ (e : ℕ × Part). composed_component (entry_of e.0 e.1.component)) l.part-iterator ≡ map composed_component (component_entries l.self.entries)
