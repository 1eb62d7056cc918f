-- Changes of names under which one name still stands for one type.
use Rattle.std.specs.Prelude.{◌≡◌, true, Some}
use Rattle.comp_entity.specs.Entity.{Name, ValueTree}
use Rattle.comp_entity.specs.Names.{changing, value_by}
use Rattle.comp_coherence.specs.Coherence.{Names}

-- What names mean is carried along where resources are called otherwise, and places: what may be mentioned may be so
-- by its other name, and what a place stands for, in the other names, its other name stands for.
pub record CarriesAlong (resource place : Name → Name) (before after : Names) : Type 0 where
  pub resources : (r : Name) → before.resource r ≡ true → after.resource (resource r) ≡ true
  pub trees : (n : Name) (t : ValueTree) → before.tree n ≡ Some t
      → after.tree (place n) ≡ Some (value_by (changing resource place) 0 t)

-- A place of what was given stands for the type for which the place that was asked stands, in other names.
pub record SameType (resource place : Name → Name) (given asked : Names) (p n : Name) : Type 0 where
  pub ty : ValueTree
  pub asked_is : asked.tree n ≡ Some ty
  pub given_is : given.tree p ≡ Some (value_by (changing resource place) 0 ty)
