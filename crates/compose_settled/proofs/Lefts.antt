-- What holds of all that instances leave open, and of it as it is written.
use Rattle.std.proofs.Common.{◌≡◌, ℕ, true, List, [], ◌∷◌, refl, ap, ◌∙◌, Some}
use Rattle.std.specs.Prelude.{option_map}
use Rattle.std.specs.List.{AllByRecursion}
use Rattle.comp_entity.specs.Entity.{ValueTree, EntityTree, ShapeTree}
use Rattle.comp_entity.specs.Names.{changing}
use Rattle.comp_entity.specs.NameLaws.{entity_twice}
use Rattle.comp_entity.specs.Views.{entries_of}
use Rattle.comp_coherence.specs.Coherence.{Coheres, Names, OneTree, bare_value}
use Rattle.compose_left.specs.declared.spots.Thing.{Thing}
use Rattle.compose_left.specs.Origins.{of_resource, of_type, placed}
use Rattle.compose_left.specs.Wiring.{Wiring}
use Rattle.compose_needs.specs.declared.leaves.Leaf.{Leaf}
use Rattle.compose_needs.specs.Leaves.{leaves_at}
use Rattle.compose_order.specs.Needs.{LeftTree, called_at}
use Rattle.compose_meaning.specs.Meaning.{Meaning, placed_entity, placing}
use Rattle.compose_left.specs.declared.spots.Spot.{Spot}
use Rattle.compose_meaning.specs.Readable.{HasMeaning, Spot as Place}
use Rattle.compose_coherence.specs.Agreement.{Agrees}
use Rattle.compose_coherence.specs.Remaining.{Remains}
use Rattle.compose_check.specs.Open.{Asked, lefts}
use Rattle.compose_origins.specs.Placed.{CallsOneType, CallsWhatStands, StandsThere, IsTypeOf, OneTypeEach, PlacedCohere}
use Rattle.compose_naming.specs.Settled.{names_of, settled, written_as}
use Rattle.compose_known.specs.InOrder.{AreInOrder, IsApart}
use Rattle.compose_settled.specs.Written.{HasImportsInOrder, HasMeaningAsWritten, HaveMeaningsAsWritten, IsWrittenInOrder, OneTypeAsWritten}
use Rattle.compose_settled.proofs.Bare.{bare_twice, bared, coheres_bared}
use Rattle.compose_settled.proofs.Kept.{lefts_keep}
use Rattle.compose_settled.proofs.Settling.{Carried, as_is, resource_stays, settled_coheres}
use Rattle.compose_settled.proofs.Ties.{Ties, in_order, ties, ties_by, union_ties}

-- ---- lists

pub weaker : {X : Type 0} (P Q : X → Type 0) → ((x : X) → P x → Q x) → (xs : List X) → AllByRecursion P xs → AllByRecursion Q xs
weaker P Q w [] h = tt
weaker P Q w (x ∷ xs) h = (w x h.0, weaker P Q w xs h.1)

pub together : {X : Type 0} (P Q R : X → Type 0) → ((x : X) → P x → Q x → R x) → (xs : List X) → AllByRecursion P xs → AllByRecursion Q xs → AllByRecursion R xs
together P Q R w [] h k = tt
together P Q R w (x ∷ xs) h k = (w x h.0 k.0, together P Q R w xs h.1 k.1)

-- ---- types of instances in what is left open

abbrev AskTies : Asked → Type 0
AskTies x = Ties x.1

abbrev LeftTies : LeftTree → Type 0
LeftTies l = Ties l.entity

imports_tie : (es : List (List ℕ × EntityTree)) → AreInOrder (entries_of es) → AllByRecursion AskTies es
imports_tie [] h = tt
imports_tie (e ∷ es) h = (ties e.1 h.0, imports_tie es h.1)

shapes_tie : (ss : List ShapeTree) → AllByRecursion HasImportsInOrder ss → AllByRecursion (λ (s : ShapeTree). AllByRecursion AskTies s.imports) ss
shapes_tie [] h = tt
shapes_tie (s ∷ ss) h = (imports_tie s.imports h.0, shapes_tie ss h.1)

lefts_tie : (w : Wiring) → AllByRecursion HasImportsInOrder w.shapes → AllByRecursion LeftTies (lefts w)
lefts_tie w h = lefts_keep Ties w (λ i e. ties_by (of_resource w i) (of_type w i) 0 e) union_ties (shapes_tie w.shapes h)

-- ---- one type, as written

module _ (names : Names) where
  bared_calls : (l : LeftTree) → CallsOneType names l → CallsOneType (bared names) l
  bared_calls l h =
      weaker (λ (leaf : Leaf). AllByRecursion (IsTypeOf names leaf.named) (called_at l.calls leaf.path)) (λ (leaf : Leaf). AllByRecursion (IsTypeOf (bared names) leaf.named) (called_at l.calls leaf.path))
      (λ leaf called. weaker (IsTypeOf names leaf.named) (IsTypeOf (bared names) leaf.named) (of_leaf leaf) (called_at l.calls leaf.path) called) (leaves_at l.entity) h
    where
      of_leaf : (leaf : Leaf) (t : Thing) → IsTypeOf names leaf.named t → IsTypeOf (bared names) leaf.named t
      of_leaf leaf t is kind n named = ap (option_map bare_value) (is kind n named)

  bared_stands : (l : LeftTree) → CallsWhatStands names l → CallsWhatStands (bared names) l
  bared_stands l h = weaker (λ (s : Spot). s.what.is_type ≡ true → StandsThere names l.entity s.path s.what) (λ (s : Spot). s.what.is_type ≡ true → StandsThere (bared names) l.entity s.path s.what) stands l.calls h
    where
      stands : (s : Spot) → (s.what.is_type ≡ true → StandsThere names l.entity s.path s.what) → s.what.is_type ≡ true → StandsThere (bared names) l.entity s.path s.what
      stands s h kind = let x = h kind in record { ty = x.ty; there = x.there; is = ap (option_map bare_value) x.is ∙ ap Some (bare_twice x.ty); nameless = x.nameless }

  bared_placed : (w : Wiring) (i : ℕ) (es : List (List ℕ × EntityTree)) → PlacedCohere names w i es → PlacedCohere (bared names) w i es
  bared_placed w i es h = weaker (λ (e : List ℕ × EntityTree). Coheres names (placed w i e.1)) (λ (e : List ℕ × EntityTree). Coheres (bared names) (placed w i e.1)) (λ e coheres. coheres_bared names (placed w i e.1) coheres) es h

bared_each : (w : Wiring) → OneTypeEach w → OneTypeEach w
bared_each w h = record {
  names = bared h.names;
  imports = λ i s there. bared_placed h.names w i s.imports (h.imports i s there);
  exports = λ i s there. bared_placed h.names w i s.exports (h.exports i s there);
  stands = weaker (CallsWhatStands h.names) (CallsWhatStands (bared h.names)) (bared_stands h.names) (lefts w) h.stands;
  calls = weaker (CallsOneType h.names) (CallsOneType (bared h.names)) (bared_calls h.names) (lefts w) h.calls;
  lefts = weaker (λ (l : LeftTree). Coheres h.names l.entity) (λ (l : LeftTree). Coheres (bared h.names) l.entity) (λ l coheres. coheres_bared h.names l.entity coheres) (lefts w) h.lefts;
}

pub one_as_written : Carried → (w : Wiring) → OneTypeEach w → OneTypeAsWritten w
unfolding bared_each
one_as_written carried w h = record {
  one = bared_each w h;
  written =
      together (CallsOneType h.names) (λ (l : LeftTree). Coheres h.names l.entity) (λ (l : LeftTree). Coheres (bared h.names) (settled l).entity)
      (settled_coheres carried h.names) (lefts w) h.calls h.lefts;
}

-- ---- in order

pub stand_in_order : ((names : Names) (t : ValueTree) → OneTree names t → IsApart t) → (w : Wiring) → OneTypeAsWritten w → AllByRecursion HasImportsInOrder w.shapes → AllByRecursion IsWrittenInOrder (lefts w)
stand_in_order apart w h k =
    together (λ (l : LeftTree). Coheres h.one.names (settled l).entity) LeftTies IsWrittenInOrder
    (λ l coheres tied. in_order apart h.one.names (settled l).entity coheres (ties_by as_is (written_as (names_of l)) 0 l.entity tied)) (lefts w) h.written (lefts_tie w k)

-- ---- meanings

abbrev pub Means : Type 0
Means = (names : Names) (mean : Meaning) (spot : Place) → Agrees names mean → (e : EntityTree) → Coheres names e → Remains mean spot e → HasMeaning mean spot e

pub have_meanings : Means → (w : Wiring) → OneTypeAsWritten w → HaveMeaningsAsWritten w
have_meanings means w h = record {
  names = h.one.names;
  have = λ mean agrees. weaker (λ (l : LeftTree). Coheres h.one.names (settled l).entity) (HasMeaningAsWritten mean)
      (λ l coheres spot remains. means h.one.names mean spot agrees (settled l).entity coheres remains) (lefts w) h.written;
}

pub same_placed : (mean : Meaning) (l : LeftTree) → placed_entity mean (settled l).entity ≡ placed_entity mean l.entity
same_placed mean l =
    entity_twice (placing mean.resource) (changing as_is (written_as (names_of l))) (placing mean.resource)
    (record { resource = λ d n. ap ((placing mean.resource).resource d) (resource_stays d n); place = λ d n. refl; mark = λ m. refl }) 0 l.entity
