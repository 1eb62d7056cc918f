use Rattle.std.proofs.Common.{◌≡◌, ◌++◌, ℕ, map}
use Rattle.compose_graph.proofs.instances.Instances.components.Given as goal

abbrev pub invariant-loop-component : goal.invariant-loop-component
invariant-loop-component l = l.ids.items ++ map (λ (e : ℕ × ℕ). e.1) l.component-iterator ≡ map (λ i. i.component) l.self.entries
