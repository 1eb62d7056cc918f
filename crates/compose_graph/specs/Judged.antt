-- Whether a composition graph can be written, and why not.
use Rattle.std.specs.Prelude.{◌≡◌, ℕ, List, map, Some, slice_get}
use Rattle.compose_check.specs.Checked.{IsCircle, IsRefusedFor, IsSound}
use Rattle.compose_check.specs.Composition.{wiring}
use Rattle.compose_check.specs.declared.error.CheckError.{CheckError}
use Rattle.compose_check.specs.declared.error.CheckError.TheVariants as refusal
use Rattle.compose_order.specs.Needs.{LeftTree}
use Rattle.compose_graph.specs.Composed.{composed}
use Rattle.compose_graph.specs.Wiring.{instance_id}
use Rattle.compose_graph.specs.Graph.{GraphTree}

-- There is an order of its instances and of what they leave open.
pub record CanBeWritten (g : GraphTree) : Type 0 where
  pub order : List ℕ
  pub lefts : List LeftTree
  pub sound : IsSound (composed g) order lefts

-- Instances are given to each other in a circle: this is the last one on a circle, and its component has this name.
pub record IsCycle (g : GraphTree) (id : ℕ) (name : List ℕ) : Type 0 where
  pub place : ℕ
  pub circle : IsCircle (composed g) place name
  pub there : slice_get (map instance_id g.instances) place ≡ Some id

-- why a graph can't be written; want of memory has no cause here
abbrev pub IsJudgement : GraphTree → CheckError → Type 0
IsJudgement g (refusal.Cycle id name) = IsCycle g id name
IsJudgement g (refusal.Incompatible why) = IsRefusedFor (wiring (composed g)) why
IsJudgement g refusal.Memory = Unit {0}
