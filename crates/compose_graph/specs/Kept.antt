-- What the calls of a composition graph keep.
use Rattle.std.specs.Prelude.{◌≡◌, ℕ, suc, ◌≤◌, true, false, List, [], ◌∷◌, map, None, is_some}
use Rattle.std.specs.List.{AllByRecursion}
use Rattle.compose_graph.specs.Graph.{ComponentEntry, InstanceEntry, GraphTree, component_at, component_named, component_of, connection_into, fault_between}
use Rattle.compose_graph.specs.declared.connection.Connection.{Connection}

-- numbers that rise, from this one on, and are below the next one
abbrev pub CountUp : ℕ → List ℕ → ℕ → Type 0
CountUp low [] next = low ≤ next
CountUp low (id ∷ ids) next = (low ≤ id) × CountUp (suc id) ids next

-- no two components have one name
abbrev pub HaveOwnNames : List ComponentEntry → Type 0
HaveOwnNames [] = Unit {0}
HaveOwnNames (c ∷ cs) = (component_named cs c.name ≡ None) × HaveOwnNames cs

-- no two connections go into one import
abbrev pub HaveOwnImports : List Connection → Type 0
HaveOwnImports [] = Unit {0}
HaveOwnImports (c ∷ cs) = (connection_into cs c.target c.import ≡ None) × HaveOwnImports cs

-- a connection joins two instances that are there, by places that are there, and what is given fits loosely
abbrev pub IsJoined : GraphTree → Connection → Type 0
IsJoined g c = fault_between false c (component_of g c.source) (component_of g c.target) ≡ None

pub record IsGraph (g : GraphTree) : Type 0 where
  pub component_ids : CountUp 0 (map (λ (c : ComponentEntry). c.id) g.components) g.next_component
  pub instance_ids : CountUp 0 (map (λ (i : InstanceEntry). i.id) g.instances) g.next_instance
  pub names : HaveOwnNames g.components
  pub made : AllByRecursion (λ (i : InstanceEntry). is_some (component_at g.components i.component) ≡ true) g.instances
  pub joined : AllByRecursion (IsJoined g) g.connections
  pub apart : HaveOwnImports g.connections
