use Rattle.std.proofs.Common.{◌≡◌, ◌++◌, ℕ, map}
use Rattle.compose_graph.specs.Wiring.{instance_id}
use Rattle.compose_graph.proofs.instances.Instances.ids.Given as goal

abbrev pub invariant-loop-id : goal.invariant-loop-id
invariant-loop-id l = l.ids.items ++ map (λ (e : ℕ × ℕ). e.0) l.id-iterator ≡ map instance_id l.self.entries
