-- Left imports while they are merged by name.
use Rattle.std.specs.Prelude.{◌≡◌, ℕ, true, false, All, List, [], ◌++◌, map, slice_set}
use Rattle.comp_entity.specs.Entity.{EntityTree}
use Rattle.compose_left.specs.Merging.{agree}
use Rattle.compose_left.specs.Merged.{IsMerged}
use Rattle.compose_left.specs.declared.merge.MergedImport.{MergedImport}
use Rattle.compose_order.specs.Known.{FindsImports, merged_left}
use Rattle.compose_order.specs.Needs.{LeftTree}
use Rattle.compose_check.specs.Open.{Asked, agrees, all_agree, merged_all, merged_with, with_asked}
use Rattle.compose_check.specs.declared.open.Merging.{Merging}

abbrev pub Bytes : Type 0
Bytes = List ℕ

abbrev pub lefts_in : List MergedImport → List LeftTree
lefts_in list = map merged_left list

-- imports are found by their names
pub record AreMerging (m : Merging) : Type 0 where
  pub places : FindsImports m.places (lefts_in m.list.items)
  pub merged : All IsMerged m.list.items

-- what is asked agrees with this import, at this place, and is merged into it
pub record MergesAt (old new : List LeftTree) (place : ℕ) (l : LeftTree) (e : EntityTree) : Type 0 where
  pub lefts : new ≡ slice_set old place (merged_with l e)
  pub agree : agree l.entity e ≡ true

-- what is asked agrees with what was asked under its name before, and is merged with it
pub record Takes (old new : List LeftTree) (x : Asked) : Type 0 where
  pub lefts : new ≡ with_asked old x
  pub agrees : agrees old x ≡ true

-- it does not
pub record Differs (lefts : List LeftTree) (x : Asked) (name : Bytes) : Type 0 where
  pub named : name ≡ x.0
  pub differs : agrees lefts x ≡ false

-- the first of some, which are merged, and the rest
pub record AreMerged (all rest : List Asked) (merged : List LeftTree) : Type 0 where
  pub before : List Asked
  pub whole : all ≡ before ++ rest
  pub lefts : merged ≡ merged_all before
  pub agree : all_agree [] before ≡ true
