-- What a composition begins with: an instance of the root, which has a name and imports.
use Rattle.std.specs.Prelude.{◌≡◌, ◌<◌, ℕ, List, codes, length, Some}
use Rattle.compose_graph.specs.Graph.{ComponentEntry, GraphTree, component_of}

-- the name of the root, and of its instance
abbrev pub root_name : List ℕ
root_name = codes "root"

-- the component of an instance has imports
pub record ImportsSome (g : GraphTree) (id : ℕ) : Type 0 where
  pub component : ComponentEntry
  pub made_from : component_of g id ≡ Some component
  pub some : 0 < length component.shape.imports
