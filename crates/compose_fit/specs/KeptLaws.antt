-- Laws of shapes by number in a table that has grown.
use Rattle.std.specs.Prelude.{ℕ, List, [], ◌∷◌, slice_get, Option, Some, None}
use Rattle.comp_entity.specs.Entity.{ShapeTree}
use Rattle.comp_table.specs.Plain.{plain_entity}
use Rattle.comp_table.specs.StandLaws.{stands_kept}
use Rattle.comp_table.specs.Trees.{PlainTree, Extends}
use Rattle.compose_fit.specs.declared.numbered.ShapeNumbers.{ShapeNumbers}
use Rattle.compose_fit.specs.Seen.{instance_of, IsNumbered, IsOf, AreInstances}

module _ (ts us : List PlainTree) (grown : Extends ts us) where
  pub numbered_kept : (n : ShapeNumbers) (s : ShapeTree) → IsNumbered ts n s → IsNumbered us n s
  numbered_kept n s h = record {
    imports = stands_kept ts us grown n.imports (plain_entity (instance_of s.imports)) h.imports;
    exports = stands_kept ts us grown n.exports (plain_entity (instance_of s.exports)) h.exports;
    shown = h.shown;
  }

  of_kept : (o : Option ShapeNumbers) (s : ShapeTree) → IsOf ts o s → IsOf us o s
  of_kept None s h = absurd h
  of_kept (Some n) s h = numbered_kept n s h

  pub instances_kept : (components : List ShapeNumbers) (is : List ℕ) (ss : List ShapeTree) → AreInstances ts components is ss → AreInstances us components is ss
  instances_kept components [] [] a = tt
  instances_kept components [] (s ∷ ss) a = absurd a
  instances_kept components (i ∷ is) [] a = absurd a
  instances_kept components (i ∷ is) (s ∷ ss) a = (of_kept (slice_get components i) s a.0, instances_kept components is ss a.1)
