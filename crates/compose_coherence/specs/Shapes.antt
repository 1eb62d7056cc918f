-- Entities of a shape that have a meaning (Component Model, Explainer.md, "Import and Export Definitions").
use Rattle.std.specs.Prelude.{List, ◌++◌, ℕ}
use Rattle.std.specs.List.{Contains}
use Rattle.comp_entity.specs.Entity.{EntityTree, ShapeTree}
use Rattle.comp_coherence.specs.Coherence.{Names}
use Rattle.compose_meaning.specs.Meaning.{Meaning}
use Rattle.compose_meaning.specs.Readable.{Spot, HasMeaning}
use Rattle.compose_coherence.specs.Agreement.{Agrees}
use Rattle.compose_coherence.specs.Remaining.{Remains}

-- The names of a shape mean something, such that each import and each export has any meaning that agrees with it, as
-- soon as what remains is seen to.
pub record HaveMeanings (s : ShapeTree) : Type 0 where
  pub names : Names
  pub have : (mean : Meaning) → Agrees names mean
      → (e : List ℕ × EntityTree) → Contains (s.imports ++ s.exports) e
      → (spot : Spot) → Remains mean spot e.1 → HasMeaning mean spot e.1
