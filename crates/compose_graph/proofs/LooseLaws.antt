-- Imports and exports by their places, all resources being taken as one.
use Rattle.std.proofs.Common.{◌≡◌, ap, subst, refl, arith, ℕ, zero, suc, ◌<◌, ◌≤◌, true, List, [], ◌∷◌, length, map, Option, Some, None, slice_index_or}
use Rattle.std.specs.Prelude.{slice_get, option_map}
use Rattle.comp_entity.specs.Entity.{EntityTree, ShapeTree}
use Rattle.comp_entity.specs.Views.{entries_of}
use Rattle.comp_fit.specs.Loose.{loosely, loose_tree}
use Rattle.comp_table.specs.Changes.{trees_by}
use Rattle.comp_table.specs.Codes.{first_tree}
use Rattle.comp_table.specs.declared.head.Head.TheVariants as head
use Rattle.comp_table.specs.Plain.{around, plain_entity, plain_entries}
use Rattle.comp_table.specs.Shown.{IsShown, AreShown}
use Rattle.comp_table.specs.StandLaws.{stands_kept}
use Rattle.comp_table.specs.Trees.{PlainTree, PlainTrees, none, more, tree_at, trees_of, Extends}
use Rattle.compose_fit.specs.declared.numbered.ShapeNumbers.{ShapeNumbers}
use Rattle.compose_fit.specs.Seen.{instance_of}
use Rattle.compose_fit.specs.Wires.{Given, Export}
use Rattle.compose_graph.specs.Graph.{given_entity}
use Rattle.compose_graph.specs.Loose.{StandsLoosely, IsLoosened, IsEntryNumber, IsGivenNumber}

abbrev rest_of : PlainTrees → PlainTrees
rest_of none = none
rest_of (more t ts) = ts

abbrev pub loose_entries : List (List ℕ × EntityTree) → PlainTrees
loose_entries es = trees_by loosely 0 (plain_entries (entries_of es))

-- the entry of this place has this number
pub record IsNth (ts : List PlainTree) (es : List (List ℕ × EntityTree)) (k n : ℕ) : Type 0 where
  pub item : List ℕ × EntityTree
  pub at : slice_get es k ≡ Some item
  pub here : tree_at ts n ≡ around (head.Entry true item.0) (loose_tree (plain_entity item.1))

module _ (ts : List PlainTree) where
  pub entry_nth : (ps : List ℕ) (es : List (List ℕ × EntityTree)) (k d : ℕ) → trees_of (map (tree_at ts) ps) ≡ loose_entries es → k < length ps → IsNth ts es k (slice_index_or ps k d)
  entry_nth [] es k d e lt = absurd (omega (arith, lt))
  entry_nth (p ∷ ps) [] k d e lt = absurd cc
  entry_nth (p ∷ ps) (x ∷ es) zero d e lt = record { item = x; at = refl; here = ap first_tree e }
  entry_nth (p ∷ ps) (x ∷ es) (suc k) d e lt =
      let later = entry_nth ps es k d (ap rest_of e) (omega (arith, lt)) in
      record { item = later.item; at = later.at; here = later.here }

  pub no_entry_nth : (ps : List ℕ) (es : List (List ℕ × EntityTree)) (k : ℕ) → trees_of (map (tree_at ts) ps) ≡ loose_entries es → length ps ≤ k → slice_get es k ≡ None
  no_entry_nth [] [] k e le = refl
  no_entry_nth [] (x ∷ es) k e le = absurd cc
  no_entry_nth (p ∷ ps) [] k e le = absurd cc
  no_entry_nth (p ∷ ps) (x ∷ es) zero e le = absurd (omega (arith, le))
  no_entry_nth (p ∷ ps) (x ∷ es) (suc k) e le = no_entry_nth ps es k (ap rest_of e) (omega (arith, le))

  pub given_there : (n : ℕ) (o : Option Given) → IsGivenNumber ts (Some n) o → (e : EntityTree) × StandsLoosely ts n e
  given_there n None h = absurd h
  given_there n (Some g) h = (given_entity g, h)

  pub given_entry : (n : Option ℕ) (o : Option (List ℕ × EntityTree)) → IsEntryNumber ts n o → IsGivenNumber ts n (option_map (λ (x : List ℕ × EntityTree). Export x.0 x.1) o)
  given_entry None None h = tt
  given_entry None (Some x) h = absurd h
  given_entry (Some n) None h = absurd h
  given_entry (Some n) (Some x) h = h

pub shown_at : (es : List (List ℕ × EntityTree)) (k : ℕ) (x : List ℕ × EntityTree) → AreShown (entries_of es) → slice_get es k ≡ Some x → IsShown x.1
shown_at [] k x a e = absurd cc
shown_at (y ∷ es) zero x a e = let same : y ≡ x = cc in subst (λ (z : List ℕ × EntityTree). IsShown z.1) same a.0
shown_at (y ∷ es) (suc k) x a e = shown_at es k x a.1 e

pub asked_there : (ts : List PlainTree) (n : ℕ) (es : List (List ℕ × EntityTree)) (k : ℕ) → AreShown (entries_of es) → IsEntryNumber ts (Some n) (slice_get es k) → (e : EntityTree) × StandsLoosely ts n e × IsShown e
asked_there ts n es k a h = one (slice_get es k) refl h
  where
    one : (o : Option (List ℕ × EntityTree)) → slice_get es k ≡ o → IsEntryNumber ts (Some n) o → (e : EntityTree) × StandsLoosely ts n e × IsShown e
    one None e h = absurd h
    one (Some x) e h = (x.1, h, shown_at es k x a e)

pub loosened_kept : (ts us : List PlainTree) → Extends ts us → (n : ShapeNumbers) (s : ShapeTree) → IsLoosened ts n s → IsLoosened us n s
loosened_kept ts us grown n s l = record {
  imports = stands_kept ts us grown n.imports (loose_tree (plain_entity (instance_of s.imports))) l.imports;
  exports = stands_kept ts us grown n.exports (loose_tree (plain_entity (instance_of s.exports))) l.exports;
  shown = l.shown;
}
