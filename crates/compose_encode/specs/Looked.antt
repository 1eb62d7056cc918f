-- What code looks up while instances are written, as the definitions have it.
use Rattle.std.specs.Prelude.{◌≡◌, ℕ, ◌<◌, ◌^◌, Bool, true, List, filter, length, slice_index, if◌then◌else◌}
use Rattle.std.specs.List.{AllByRecursion}
use Rattle.comp_encoder.specs.Writing.{numbered}
use Rattle.comp_format.specs.Items.{ItemTree}
use Rattle.comp_format.specs.declared.types.Sort.TheVariants as sort
use Rattle.compose_left.specs.Wired.{FindsWires}
use Rattle.compose_check.specs.Composition.{CompositionTree, HasEnds, composition_tree, goes_to, wiring}
use Rattle.compose_image.specs.Imports.{is_used, used}
use Rattle.compose_imports.specs.Imported.{FindsImports}
use Rattle.compose_image.specs.Instances.{Written, rank}
use Rattle.compose_encode.specs.Encodable.{HaveNames}
use Rattle.compose_encode.specs.Held.{Holds, wires_at}
use Rattle.compose_encode.specs.declared.output.Output.{Output}
use Rattle.compose_encode.specs.declared.tables.Tables.{Tables}

abbrev pub lent_tree : Tables → CompositionTree
lent_tree t = composition_tree t.composition.now

-- the wires, which come from what is there, and go to imports with names that are not empty
pub record HaveWires (t : Tables) : Type 0 where
  pub wires : (i : ℕ) → wires_at t.wires i ≡ filter (goes_to i) (lent_tree t).wires
  pub ends : AllByRecursion (HasEnds (wiring (lent_tree t))) (lent_tree t).wires
  pub named : AllByRecursion HaveNames (lent_tree t).components
  pub small : (n : ℕ) → slice_index t.ranks.items n < 2 ^ 63

pub record AreTables (t : Tables) (define : Bool) (imports : List ItemTree) : Type 0 where
  pub inputs : FindsWires t.inputs (lent_tree t).wires
  pub names : FindsImports t.names imports
  pub made : AllByRecursion (λ n. n < length (lent_tree t).components) (lent_tree t).instances
  pub ranks : (n : ℕ) → n < length (lent_tree t).components → is_used (lent_tree t) n ≡ true
      → slice_index t.ranks.items n ≡ rank n (used (lent_tree t))
  pub first : 0 < length (used (lent_tree t)) → t.first ≡ (if define then numbered sort.Component imports else 0)

-- what is looked up, and what is written, are those of some imports
pub record IsHeld (t : Tables) (o : Output) : Type 0 where
  pub define : Bool
  pub imports : List ItemTree
  pub written : Written
  pub tables : AreTables t define imports
  pub holds : Holds imports o written
