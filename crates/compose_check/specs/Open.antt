-- Imports agree, first part: what instances ask under names to which nothing is given, and how that merges.
use Rattle.std.specs.Prelude.{◌≡◌, ℕ, suc, Bool, true, false, ◌&&◌, List, [], ◌∷◌, ◌++◌, is_none, find, bytes_eq, if◌then◌else◌}
use Rattle.std.specs.List.{fold}
use Rattle.std.specs.Option.{option_map_or}
use Rattle.comp_entity.specs.Entity.{EntityTree, ShapeTree}
use Rattle.compose_left.specs.Merging.{agree, union}
use Rattle.compose_left.specs.Origins.{placed}
use Rattle.compose_left.specs.Spots.{spots_in}
use Rattle.compose_left.specs.Wiring.{Wiring, wire_into}
use Rattle.compose_order.specs.Needs.{LeftTree}

-- a name, and what an instance asks under it, with the numbers of origins in place
abbrev pub Asked : Type 0
Asked = List ℕ × EntityTree

-- what an instance asks by one of its imports, where nothing is given to that
abbrev pub asked_by : Wiring → ℕ → ℕ → Asked → List Asked
asked_by w instance import e = if is_none (wire_into w.wires instance import) then (e.0, placed w instance e.1) ∷ [] else []

-- by its imports from this number on
abbrev pub asked_from : Wiring → ℕ → ℕ → List Asked → List Asked
asked_from w instance import [] = []
asked_from w instance import (e ∷ es) = asked_by w instance import e ++ asked_from w instance (suc import) es

-- what the instances from this number on ask
abbrev pub asked_by_all : Wiring → ℕ → List ShapeTree → List Asked
asked_by_all w instance [] = []
asked_by_all w instance (s ∷ ss) = asked_from w instance 0 s.imports ++ asked_by_all w (suc instance) ss

-- what is left open, by instances as made and their imports in order
abbrev pub left_open : Wiring → List Asked
left_open w = asked_by_all w 0 w.shapes

-- ---- merging

abbrev pub left_alone : Asked → LeftTree
left_alone x = record { name = x.0; entity = x.1; calls = spots_in 0 x.0 [] x.1 }

abbrev pub merged_with : LeftTree → EntityTree → LeftTree
merged_with l e = record l { entity = union l.entity e; calls = l.calls ++ spots_in 0 l.name [] e }

-- what is asked under a name is merged with what was asked under it before; a new name stands behind the others
abbrev pub with_asked : List LeftTree → Asked → List LeftTree
with_asked [] x = left_alone x ∷ []
with_asked (l ∷ ls) x = if bytes_eq x.0 l.name then merged_with l x.1 ∷ ls else l ∷ with_asked ls x

-- the left imports, in the order in which they are needed first
abbrev pub merged_all : List Asked → List LeftTree
merged_all xs = fold with_asked [] xs

abbrev pub lefts : Wiring → List LeftTree
lefts w = merged_all (left_open w)

-- ---- agreement

abbrev pub is_named : List ℕ → LeftTree → Bool
is_named name l = bytes_eq name l.name

-- what is asked agrees with what was asked under its name before
abbrev pub agrees : List LeftTree → Asked → Bool
agrees ls x = option_map_or (λ (l : LeftTree). agree l.entity x.1) (find (is_named x.0) ls) true

abbrev pub all_agree : List LeftTree → List Asked → Bool
all_agree ls [] = true
all_agree ls (x ∷ xs) = agrees ls x && all_agree (with_asked ls x) xs

-- the first that does not agree with what was asked before, by its name
pub record IsDisagreement (xs : List Asked) (name : List ℕ) : Type 0 where
  pub before : List Asked
  pub asked : Asked
  pub after : List Asked
  pub all : xs ≡ before ++ asked ∷ after
  pub agreed : all_agree [] before ≡ true
  pub differs : agrees (merged_all before) asked ≡ false
  pub named : name ≡ asked.0
