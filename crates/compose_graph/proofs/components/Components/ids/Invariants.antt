use Rattle.std.proofs.Common.{◌≡◌, ◌++◌, ℕ, map}
use Rattle.compose_graph.specs.declared.part.Part.{Part}
use Rattle.compose_graph.specs.Listed.{component_entries}
use Rattle.compose_graph.proofs.components.Components.ids.Given as goal

abbrev pub invariant-loop-id : goal.invariant-loop-id
invariant-loop-id l = l.ids.items ++ map (λ (e : ℕ × Part). e.0) l.id-iterator ≡ map (λ c. c.id) (component_entries l.self.entries)
