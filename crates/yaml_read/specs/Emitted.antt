-- How a typed read of a place stands to the tree that the events there tell.
use Rattle.std.specs.Prelude.{◌≡◌, ℕ, ◌<◌, [], Option, Some, None, Result, Ok, Err}
use Rattle.yaml_small.specs.declared.event.Event.TheVariants as events
use Rattle.yaml_small.specs.Trees.{Tree, emitted}
use Rattle.yaml_small.specs.Stream.{State, next, Runs}
use Rattle.yaml_read.specs.Source.{Source, TooManyEvents, Refused}

-- From the first state to the second a node is emitted with this tree, or the stream's end.
abbrev pub Emits : State → Option Tree → State → Type 0
Emits s None z = next s ≡ Ok (events.StreamEnd, z)
Emits s (Some t) z = Runs s (emitted t []) z

-- What was read from one place to another is what a type reads in a node that is emitted there.
pub record Found {X : Type 0} (of_node : Option Tree → Option X) (s : Source) (x : X) (m : Source) : Type 0 where
  pub node : Option Tree
  pub emitted : Emits s.state node m.state
  pub read : of_node node ≡ Some x

-- A read gives this value and stands behind the node, having taken an event or more, or it counts no further.
abbrev pub Gets : {X : Type 0} → ℕ → X → State → Result (X × Source) Refused → Type 0
Gets left x z (Ok read) = (read.0 ≡ x) × (read.1.state ≡ z) × (read.1.left < left)
Gets left x z (Err refused) = refused.refusal ≡ TooManyEvents

-- What a read takes is what a type reads in the node that is emitted there, and only that.
pub record Reads {X : Type 0} (of_node : Option Tree → Option X) (read_at : Source → Result (X × Source) Refused) : Type 0 where
  pub sound : (s : Source) (x : X) (m : Source) → read_at s ≡ Ok (x, m) → Found of_node s x m
  pub complete : (s : Source) (node : Option Tree) (z : State) (x : X) → Emits s.state node z → of_node node ≡ Some x → Gets s.left x z (read_at s)
