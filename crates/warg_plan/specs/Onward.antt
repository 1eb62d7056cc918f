-- From where a visit that has stopped goes on, once more is known.
use Rattle.std.specs.Prelude.{◌≡◌, ℕ, true, List, [], Result, Ok}
use Rattle.compose_config.specs.Plan.{Settings}
use Rattle.warg_plan.specs.Keys.{Key}
use Rattle.warg_plan.specs.Known.{Extends}
use Rattle.warg_plan.specs.Walk.{Facts, Stop, Wire, Node, Entry, keys, has_key, along, node_of, visit, walk}

-- where the first has the entry of a key, the second has the same
abbrev pub Knows : (Key → Result Node Stop) → (Key → Result Node Stop) → Type 0
Knows less more = (k : Key) (x : Node) → less k ≡ Ok x → more k ≡ Ok x

-- later entries have the keys of earlier ones, and none more of those that are being visited
pub record Holds (path : List Key) (es later : List Entry) : Type 0 where
  pub kept : (k : Key) → has_key (keys es) k ≡ true → has_key (keys later) k ≡ true
  pub apart : (k : Key) → has_key path k ≡ true → has_key (keys later) k ≡ has_key (keys es) k

module _ (node : Key → Result Node Stop) (n : ℕ) (path : List Key) (es later : List Entry) where
  -- a visit of a key answers the same from the later entries as from the earlier ones, whatever more is known
  pub record GoesOn (k : Key) : Type 0 where
    pub holds : Holds path es later
    pub same : (more : Key → Result Node Stop) → Knows node more → visit more n path later k ≡ visit more n path es k

  -- and so do the visits along wires
  pub record GoesAlong (ws : List (List ℕ × Wire)) : Type 0 where
    pub holds : Holds path es later
    pub same : (more : Key → Result Node Stop) → Knows node more → along (visit more n path) later ws ≡ along (visit more n path) es ws

-- Entries stand on the way of a walk over what is known: it goes on from them as from the beginning, whatever more is known.
abbrev pub IsOnTheWay : Settings → Facts → ℕ → Key → List Entry → Type 0
IsOnTheWay s f n root es = (more : Facts) → Extends f more → visit (node_of s more) n [] es root ≡ walk (node_of s more) n root
