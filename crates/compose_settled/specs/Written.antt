-- What left imports mean as they are written, each named type by one number (Component Model, Explainer.md, "Import and
-- Export Definitions").
use Rattle.std.specs.Prelude.{ℕ, List}
use Rattle.std.specs.List.{AllByRecursion}
use Rattle.comp_entity.specs.Entity.{EntityTree, ShapeTree}
use Rattle.comp_entity.specs.Views.{entries_of}
use Rattle.comp_coherence.specs.Coherence.{Coheres, Names}
use Rattle.compose_left.specs.Wiring.{Wiring}
use Rattle.compose_order.specs.Needs.{LeftTree}
use Rattle.compose_meaning.specs.Meaning.{Meaning}
use Rattle.compose_meaning.specs.Readable.{HasMeaning, Spot}
use Rattle.compose_coherence.specs.Agreement.{Agrees}
use Rattle.compose_coherence.specs.Remaining.{Remains}
use Rattle.compose_check.specs.Open.{lefts}
use Rattle.compose_origins.specs.Placed.{OneTypeEach}
use Rattle.compose_naming.specs.Settled.{settled}
use Rattle.compose_known.specs.InOrder.{AreInOrder, IsInOrder}
use Rattle.compose_known.specs.Placed.{HasPlaces}

-- Of the types for which the numbers of origins stand: with these each left import coheres as it is written, too.
pub record OneTypeAsWritten (w : Wiring) : Type 0 where
  pub one : OneTypeEach w
  pub written : AllByRecursion (λ (l : LeftTree). Coheres one.names (settled l).entity) (lefts w)

-- names in the imports of a shape stand in order, as they do in each shape that is read
abbrev pub HasImportsInOrder : ShapeTree → Type 0
HasImportsInOrder s = AreInOrder (entries_of s.imports)

-- each type in the imports of a shape has the name of its place
abbrev pub HasImportsPlaced : ShapeTree → Type 0
HasImportsPlaced s = AllByRecursion (λ (e : List ℕ × EntityTree). HasPlaces e.1) s.imports

-- names in a left import stand in order as it is written
abbrev pub IsWrittenInOrder : LeftTree → Type 0
IsWrittenInOrder l = IsInOrder (settled l).entity

-- an import has a meaning wherever it is written, as soon as what remains is seen to
abbrev pub HasMeaningAsWritten : Meaning → LeftTree → Type 0
HasMeaningAsWritten mean l =
    (spot : Spot) → Remains mean spot (settled l).entity → HasMeaning mean spot (settled l).entity

-- The numbers of origins mean something, such that each left import has any meaning that agrees with it.
pub record HaveMeaningsAsWritten (w : Wiring) : Type 0 where
  pub names : Names
  pub have : (mean : Meaning) → Agrees names mean → AllByRecursion (HasMeaningAsWritten mean) (lefts w)
