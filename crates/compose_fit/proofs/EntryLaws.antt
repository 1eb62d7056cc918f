-- Laws of the exports of an instance, and of instances, by their places.
use Rattle.std.specs.Prelude.{◌≡◌, ℕ, zero, suc, ◌+◌, ◌<◌, ◌≤◌, true, List, [], ◌∷◌, map, length, slice_index_or, slice_get, Option, Some, None, option_map, option_and_then, refl}
use Rattle.std.proofs.Common.{sym, ◌∙◌, ap, subst, arith}
use Rattle.comp_entity.specs.Entity.{EntityTree, ShapeTree}
use Rattle.comp_entity.specs.Names.{Change, entity_by, entries_by}
use Rattle.comp_entity.specs.Views.{entries_of}
use Rattle.comp_table.specs.declared.head.Head.TheVariants as head
use Rattle.comp_table.specs.Codes.{first_tree}
use Rattle.comp_table.specs.Plain.{around, plain_entity, plain_entries}
use Rattle.comp_table.specs.Trees.{PlainTree, tree_at, trees_of, Stands}
use Rattle.std.specs.Borrow.{Bor}
use Rattle.warg_values.specs.declared.text.Text.{Text}
use Rattle.compose_left.specs.declared.wiring.Wire.{Wire}
use Rattle.compose_fit.specs.Wires.{Given, Export, given_of, given_by, asked_at}
use Rattle.compose_fit.specs.Seen.{IsSeen, AreSeen, IsEntryFound, IsGiven, IsGivenFound, given_in}
use Rattle.compose_fit.specs.declared.wire.GivenNumber.{GivenNumber}
use Rattle.compose_fit.specs.declared.wire.GivenNumber.TheVariants as numbered
use Rattle.compose_fit.specs.declared.numbered.ShapeNumbers.{ShapeNumbers}
use Rattle.compose_fit.proofs.ExportLaws.{other_trees}

-- the entry of this place, in other names, has this number
pub record IsNth (ts : List PlainTree) (c : Change) (es : List (List ℕ × EntityTree)) (k n : ℕ) : Type 0 where
  pub item : List ℕ × EntityTree
  pub at : slice_get es k ≡ Some item
  pub here : tree_at ts n ≡ around (head.Entry (c.mark true) item.0) (plain_entity (entity_by c 0 item.1))

module _ (ts : List PlainTree) (c : Change) where
  pub entry_nth : (ps : List ℕ) (es : List (List ℕ × EntityTree)) (k d : ℕ) → trees_of (map (tree_at ts) ps) ≡ plain_entries (entries_by c 0 (entries_of es)) → k < length ps → IsNth ts c es k (slice_index_or ps k d)
  unfolding other_trees
  entry_nth [] es k d e lt = absurd (omega (arith, lt))
  entry_nth (p ∷ ps) [] k d e lt = absurd cc
  entry_nth (p ∷ ps) (x ∷ es) zero d e lt = record { item = x; at = refl; here = ap first_tree e }
  entry_nth (p ∷ ps) (x ∷ es) (suc k) d e lt =
      let later = entry_nth ps es k d (ap other_trees e) (omega (arith, lt)) in
      record { item = later.item; at = later.at; here = later.here }

  pub no_entry_nth : (ps : List ℕ) (es : List (List ℕ × EntityTree)) (k : ℕ) → trees_of (map (tree_at ts) ps) ≡ plain_entries (entries_by c 0 (entries_of es)) → length ps ≤ k → slice_get es k ≡ None
  unfolding other_trees
  no_entry_nth [] [] k e le = refl
  no_entry_nth [] (x ∷ es) k e le = absurd cc
  no_entry_nth (p ∷ ps) [] k e le = absurd cc
  no_entry_nth (p ∷ ps) (x ∷ es) zero e le = absurd (omega (arith, le))
  no_entry_nth (p ∷ ps) (x ∷ es) (suc k) e le = no_entry_nth ps es k (ap other_trees e) (omega (arith, le))

-- an instance of this number, in its names
pub record IsSeenAt (ts : List PlainTree) (c : ℕ → Change) (shapes : List ShapeTree) (at k : ℕ) (n : ShapeNumbers) : Type 0 where
  pub shape : ShapeTree
  pub there : slice_get shapes k ≡ Some shape
  pub seen : IsSeen ts (c at) n shape

module _ (ts : List PlainTree) (c : ℕ → Change) where
  pub seen_at : (first : ℕ) (ns : List ShapeNumbers) (ss : List ShapeTree) (k at : ℕ) (d : ShapeNumbers) → AreSeen ts c first ns ss → first + k ≡ at → k < length ns → IsSeenAt ts c ss at k (slice_index_or ns k d)
  seen_at first [] [] k at d a e lt = absurd (omega (arith, lt))
  seen_at first [] (s ∷ ss) k at d a e lt = absurd a
  seen_at first (n ∷ ns) [] k at d a e lt = absurd a
  seen_at first (n ∷ ns) (s ∷ ss) zero at d a e lt =
      let same : first ≡ at = omega (arith, e) in
      record { shape = s; there = refl; seen = subst (λ i. IsSeen ts (c i) n s) same a.0 }
  seen_at first (n ∷ ns) (s ∷ ss) (suc k) at d a e lt =
      let later = seen_at (suc first) ns ss k at d a.1 (omega (arith, e)) (omega (arith, lt)) in
      record { shape = later.shape; there = later.there; seen = later.seen }

  pub none_seen_at : (first : ℕ) (ns : List ShapeNumbers) (ss : List ShapeTree) (k : ℕ) → AreSeen ts c first ns ss → length ns ≤ k → slice_get ss k ≡ None
  none_seen_at first [] [] k a le = refl
  none_seen_at first [] (s ∷ ss) k a le = absurd a
  none_seen_at first (n ∷ ns) [] k a le = absurd a
  none_seen_at first (n ∷ ns) (s ∷ ss) zero a le = absurd (omega (arith, le))
  none_seen_at first (n ∷ ns) (s ∷ ss) (suc k) a le = none_seen_at (suc first) ns ss k a.1 (omega (arith, le))

-- ---- what was found

pub none_entry : (ts : List PlainTree) (c : Change) (o : Option (List ℕ × EntityTree)) → IsEntryFound ts c None o → o ≡ None
none_entry ts c None h = refl
none_entry ts c (Some x) h = absurd h

-- an entry that was found
pub record IsItem (ts : List PlainTree) (c : Change) (found : Bor Text × ℕ) (o : Option (List ℕ × EntityTree)) : Type 0 where
  pub item : List ℕ × EntityTree
  pub is : o ≡ Some item
  pub name : found.0.now ≡ item.0
  pub stands : Stands ts found.1 (plain_entity (entity_by c 0 item.1))

pub some_entry : (ts : List PlainTree) (c : Change) (found : Bor Text × ℕ) (o : Option (List ℕ × EntityTree)) → IsEntryFound ts c (Some found) o → IsItem ts c found o
some_entry ts c found None h = absurd h
some_entry ts c found (Some x) h = record { item = x; is = refl; name = h.0; stands = h.1 }

pub none_given : (ts : List PlainTree) (c : Change) (o : Option Given) → IsGivenFound ts c None o → o ≡ None
none_given ts c None h = refl
none_given ts c (Some g) h = absurd h

pub some_given : (ts : List PlainTree) (c : Change) (found : GivenNumber) (o : Option Given) → IsGivenFound ts c (Some found) o → (g : Given) × (o ≡ Some g) × IsGiven ts found (given_in c g)
some_given ts c found None h = absurd h
some_given ts c found (Some g) h = (g, refl, h)

-- what a wire gives, once its source is found
pub given_is : (shapes : List ShapeTree) (wire : Wire) (s : ShapeTree) → slice_get shapes wire.source ≡ Some s → given_by shapes wire ≡ given_of s wire.export
given_is shapes wire s e = ap (λ (o : Option ShapeTree). option_and_then (λ (s : ShapeTree). given_of s wire.export) o) e

pub none_given_by : (shapes : List ShapeTree) (wire : Wire) → slice_get shapes wire.source ≡ None → given_by shapes wire ≡ None
none_given_by shapes wire e = ap (λ (o : Option ShapeTree). option_and_then (λ (s : ShapeTree). given_of s wire.export) o) e

pub asked_is : (shapes : List ShapeTree) (target import : ℕ) (s : ShapeTree) → slice_get shapes target ≡ Some s → asked_at shapes target import ≡ slice_get s.imports import
asked_is shapes target import s e = ap (λ (o : Option ShapeTree). option_and_then (λ (s : ShapeTree). slice_get s.imports import) o) e

pub none_asked : (shapes : List ShapeTree) (target import : ℕ) → slice_get shapes target ≡ None → asked_at shapes target import ≡ None
none_asked shapes target import e = ap (λ (o : Option ShapeTree). option_and_then (λ (s : ShapeTree). slice_get s.imports import) o) e

-- an export that is given, once it was found
pub export_given : (ts : List PlainTree) (c : Change) (shapes : List ShapeTree) (wire : Wire) (s : ShapeTree) (place : ℕ) (r : Option (Bor Text × ℕ)) → slice_get shapes wire.source ≡ Some s → wire.export ≡ Some place → IsEntryFound ts c r (slice_get s.exports place)
    → IsGivenFound ts c (option_map (λ (f : Bor Text × ℕ). numbered.Export f.0 f.1) r) (given_by shapes wire)
export_given ts c shapes wire s place r there at h =
    subst (λ o. IsGivenFound ts c (option_map (λ (f : Bor Text × ℕ). numbered.Export f.0 f.1) r) o)
    (sym (given_is shapes wire s there ∙ ap (given_of s) at)) (one r (slice_get s.exports place) h)
  where
    one : (r : Option (Bor Text × ℕ)) (o : Option (List ℕ × EntityTree)) → IsEntryFound ts c r o → IsGivenFound ts c (option_map (λ (f : Bor Text × ℕ). numbered.Export f.0 f.1) r) (option_map (λ (x : List ℕ × EntityTree). Export x.0 x.1) o)
    one None None h = tt
    one None (Some x) h = absurd h
    one (Some f) None h = absurd h
    one (Some f) (Some x) h = h
