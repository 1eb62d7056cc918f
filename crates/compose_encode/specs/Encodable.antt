-- Compositions that can be written.
use Rattle.std.specs.Prelude.{ℕ, ◌<◌, List, length}
use Rattle.std.specs.List.{AllByRecursion}
use Rattle.comp_entity.specs.Entity.{EntityTree}
use Rattle.compose_check.specs.Composition.{ComponentTree, CompositionTree, IsComposition}

-- names that are not empty
abbrev pub HasName : List ℕ × EntityTree → Type 0
HasName e = 0 < length e.0

abbrev pub HaveNames : ComponentTree → Type 0
HaveNames k = AllByRecursion HasName k.shape.imports

-- Names of imports are not empty, and the instances of the order are there.
pub record CanBeWritten (c : CompositionTree) (order : List ℕ) : Type 0 where
  pub composition : IsComposition c
  pub named : AllByRecursion HaveNames c.components
  pub there : AllByRecursion (λ i. i < length c.instances) order
