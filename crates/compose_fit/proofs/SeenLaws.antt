-- Laws of instances by numbers, in a table that grows.
use Rattle.std.specs.Prelude.{◌≡◌, ℕ, zero, suc, ◌+◌, ◌<◌, List, [], ◌∷◌, ◌++◌, length, take, slice_index_or, slice_get, Some, refl}
use Rattle.std.proofs.Common.{◌∙◌, ap, subst, arith}
use Rattle.comp_entity.specs.Entity.{TypeShapeTree, Value, Resource, Func, Instance, Component, EntityTree, IsType, IsFunc, IsInstance, IsComponent, IsModule, IsOwnModule, Entries, no_entry, entry, ShapeTree}
use Rattle.comp_entity.specs.Names.{Change, type_by, entity_by, entries_by}
use Rattle.comp_entity.specs.Views.{entries_of}
use Rattle.comp_table.specs.Plain.{plain_entity}
use Rattle.comp_table.specs.Shown.{IsShownType, IsShown, AreShown}
use Rattle.comp_table.specs.StandLaws.{stands_kept}
use Rattle.comp_table.specs.Trees.{PlainTree, Extends}
use Rattle.compose_fit.specs.declared.numbered.ShapeNumbers.{ShapeNumbers}
use Rattle.compose_fit.specs.Seen.{instance_of, IsNumbered, IsOf, AreInstances, IsSeen, AreSeen}

-- in other names the same core modules of a component's own stand in an entity
mutual
  type_shown : (c : Change) (d : ℕ) (t : TypeShapeTree) → IsShownType t → IsShownType (type_by c d t)
  type_shown c d (Value t) s = tt
  type_shown c d (Resource r) s = tt
  type_shown c d (Func f) s = tt
  type_shown c d (Instance es) s = entries_shown c (suc d) es s
  type_shown c d (Component is es) s = (entries_shown c (suc (suc d)) is s.0, entries_shown c (suc (suc d)) es s.1)

  pub entity_shown : (c : Change) (d : ℕ) (e : EntityTree) → IsShown e → IsShown (entity_by c d e)
  entity_shown c d (IsType t) s = type_shown c d t s
  entity_shown c d (IsFunc f) s = tt
  entity_shown c d (IsInstance es) s = entries_shown c d es s
  entity_shown c d (IsComponent is es) s = (entries_shown c (suc (suc d)) is s.0, entries_shown c (suc (suc d)) es s.1)
  entity_shown c d (IsModule m) s = tt
  entity_shown c d IsOwnModule s = absurd s

  entries_shown : (c : Change) (d : ℕ) (es : Entries) → AreShown es → AreShown (entries_by c d es)
  entries_shown c d no_entry s = tt
  entries_shown c d (entry name e mark es) s = (entity_shown c d e s.0, entries_shown c d es s.1)

pub shown_nth : (es : List (List ℕ × EntityTree)) (k : ℕ) (x : List ℕ × EntityTree) → AreShown (entries_of es) → slice_get es k ≡ Some x → IsShown x.1
shown_nth [] k x s e = absurd cc
shown_nth (y ∷ es) zero x s e =
    let same : y ≡ x = grind (arith, e) in
    subst (λ (z : List ℕ × EntityTree). IsShown z.1) same s.0
shown_nth (y ∷ es) (suc k) x s e = shown_nth es k x s.1 e

-- ---- a table that has grown

module _ (ts us : List PlainTree) (grown : Extends ts us) where
  seen_kept : (c : Change) (n : ShapeNumbers) (s : ShapeTree) → IsSeen ts c n s → IsSeen us c n s
  seen_kept c n s h = record {
    imports = stands_kept ts us grown n.imports (plain_entity (entity_by c 0 (instance_of s.imports))) h.imports;
    exports = stands_kept ts us grown n.exports (plain_entity (entity_by c 0 (instance_of s.exports))) h.exports;
    shown = h.shown;
  }

  pub all_seen_kept : (c : ℕ → Change) (i : ℕ) (ns : List ShapeNumbers) (ss : List ShapeTree) → AreSeen ts c i ns ss → AreSeen us c i ns ss
  all_seen_kept c i [] [] a = tt
  all_seen_kept c i [] (s ∷ ss) a = absurd a
  all_seen_kept c i (n ∷ ns) [] a = absurd a
  all_seen_kept c i (n ∷ ns) (s ∷ ss) a = (seen_kept (c i) n s a.0, all_seen_kept c (suc i) ns ss a.1)

-- ---- one instance more

pub seen_push : (ts : List PlainTree) (c : ℕ → Change) (first at : ℕ) (ns : List ShapeNumbers) (ss : List ShapeTree) (n : ShapeNumbers) (s : ShapeTree) → AreSeen ts c first ns ss → first + length ns ≡ at → IsSeen ts (c at) n s → AreSeen ts c first (ns ++ n ∷ []) (ss ++ s ∷ [])
seen_push ts c first at [] [] n s a e h =
    let same : at ≡ first = omega (arith, e) in
    (subst (λ i. IsSeen ts (c i) n s) same h, tt)
seen_push ts c first at [] (t ∷ ss) n s a e h = absurd a
seen_push ts c first at (m ∷ ns) [] n s a e h = absurd a
seen_push ts c first at (m ∷ ns) (t ∷ ss) n s a e h = (a.0, seen_push ts c (suc first) at ns ss n s a.1 (omega (arith, e)) h)

pub as_many : (ts : List PlainTree) (c : ℕ → Change) (first : ℕ) (ns : List ShapeNumbers) (ss : List ShapeTree) → AreSeen ts c first ns ss → length ns ≡ length ss
as_many ts c first [] [] a = refl
as_many ts c first [] (t ∷ ss) a = absurd a
as_many ts c first (m ∷ ns) [] a = absurd a
as_many ts c first (m ∷ ns) (t ∷ ss) a = ap suc (as_many ts c (suc first) ns ss a.1)

-- the instance of this place is of a component that is there
pub record IsInstanceAt (ts : List PlainTree) (components : List ShapeNumbers) (ss : List ShapeTree) (k i : ℕ) : Type 0 where
  pub shape : ShapeTree
  pub below : i < length components
  pub upto : take (k + 1) ss ≡ take k ss ++ shape ∷ []
  pub numbered : (d : ShapeNumbers) → IsNumbered ts (slice_index_or components i d) shape

of_found : (ts : List PlainTree) (components : List ShapeNumbers) (i : ℕ) (s : ShapeTree) → IsOf ts (slice_get components i) s → (i < length components) × ((d : ShapeNumbers) → IsNumbered ts (slice_index_or components i d) s)
of_found ts [] i s h = absurd h
of_found ts (n ∷ components) zero s h = (omega arith, λ d. h)
of_found ts (n ∷ components) (suc i) s h = let later = of_found ts components i s h in (let lt = later.0 in omega (arith, lt), later.1)

pub instance_at : (ts : List PlainTree) (components : List ShapeNumbers) (is : List ℕ) (ss : List ShapeTree) (k d : ℕ) → AreInstances ts components is ss → k < length is → IsInstanceAt ts components ss k (slice_index_or is k d)
instance_at ts components [] [] k d a lt = absurd (omega (arith, lt))
instance_at ts components [] (s ∷ ss) k d a lt = absurd a
instance_at ts components (i ∷ is) [] k d a lt = absurd a
instance_at ts components (i ∷ is) (s ∷ ss) zero d a lt =
    let h = of_found ts components i s a.0 in
    record { shape = s; below = h.0; upto = refl; numbered = h.1 }
instance_at ts components (i ∷ is) (s ∷ ss) (suc k) d a lt =
    let later = instance_at ts components is ss k d a.1 (omega (arith, lt)) in
    record { shape = later.shape; below = later.below; upto = (let next : suc k + 1 ≡ suc (k + 1) = omega arith in ap (λ m. take m (s ∷ ss)) next ∙ ap (λ xs. s ∷ xs) later.upto); numbered = later.numbered }

pub all_taken : (ts : List PlainTree) (components : List ShapeNumbers) (is : List ℕ) (ss : List ShapeTree) → AreInstances ts components is ss → take (length is) ss ≡ ss
all_taken ts components [] [] a = refl
all_taken ts components [] (s ∷ ss) a = absurd a
all_taken ts components (i ∷ is) [] a = absurd a
all_taken ts components (i ∷ is) (s ∷ ss) a = ap (λ xs. s ∷ xs) (all_taken ts components is ss a.1)
