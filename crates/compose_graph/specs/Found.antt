-- Connections as they lie in memory: in the order made, and found by the import into which they go.
use Rattle.std.specs.Prelude.{◌≡◌, ℕ, List, option_map}
use Rattle.std.specs.BTreeMap.{BTreeMap, get}
use Rattle.compose_left.specs.declared.wiring.Input.{Input}
use Rattle.compose_left.specs.Wired.{input_cmp}
use Rattle.compose_graph.specs.Graph.{connection_into}
use Rattle.compose_graph.specs.Kept.{HaveOwnImports}
use Rattle.compose_graph.specs.declared.connection.Connection.{Connection}

abbrev pub input_of : Connection → Input
input_of c = record { target = c.target; import = c.import }

-- what is found under an import is the instance that is given to it
abbrev pub FindsSources : BTreeMap Input ℕ → List Connection → Type 0
FindsSources found cs =
    (i : Input) → get input_cmp found i ≡ option_map (λ (c : Connection). c.source) (connection_into cs i.target i.import)

pub record AreFound (list : List Connection) (sources : BTreeMap Input ℕ) : Type 0 where
  pub apart : HaveOwnImports list
  pub found : FindsSources sources list
