-- What components import and export as numbers of a table, all resources being taken as one.
use Rattle.std.specs.Prelude.{ℕ, List, Option, Some, None}
use Rattle.comp_entity.specs.Entity.{EntityTree, ShapeTree}
use Rattle.comp_entity.specs.Views.{entries_of}
use Rattle.comp_fit.specs.Loose.{loose_tree}
use Rattle.comp_table.specs.Plain.{plain_entity}
use Rattle.comp_table.specs.Shown.{AreShown}
use Rattle.comp_table.specs.Trees.{PlainTree, Stands}
use Rattle.compose_fit.specs.Seen.{instance_of}
use Rattle.compose_fit.specs.Wires.{Given}
use Rattle.compose_fit.specs.declared.numbered.ShapeNumbers.{ShapeNumbers}
use Rattle.compose_graph.specs.Graph.{given_entity}

-- a number stands for an entity, or for an instance of imports or exports, in which all resources are one
abbrev pub StandsLoosely : List PlainTree → ℕ → EntityTree → Type 0
StandsLoosely ts n e = Stands ts n (loose_tree (plain_entity e))

abbrev pub StandsForAll : List PlainTree → ℕ → List (List ℕ × EntityTree) → Type 0
StandsForAll ts n es = StandsLoosely ts n (instance_of es)

pub record IsLoosened (ts : List PlainTree) (n : ShapeNumbers) (s : ShapeTree) : Type 0 where
  pub imports : StandsForAll ts n.imports s.imports
  pub exports : StandsForAll ts n.exports s.exports
  pub shown : AreShown (entries_of s.imports)

-- the number of the import or the export of a place, where there is one
abbrev pub IsEntryNumber : List PlainTree → Option ℕ → Option (List ℕ × EntityTree) → Type 0
IsEntryNumber ts None None = Unit {0}
IsEntryNumber ts (Some n) (Some e) = StandsLoosely ts n e.1
IsEntryNumber ts _ _ = ⊥

-- the number of what is given, where it is there
abbrev pub IsGivenNumber : List PlainTree → Option ℕ → Option Given → Type 0
IsGivenNumber ts None None = Unit {0}
IsGivenNumber ts (Some n) (Some g) = StandsLoosely ts n (given_entity g)
IsGivenNumber ts _ _ = ⊥
