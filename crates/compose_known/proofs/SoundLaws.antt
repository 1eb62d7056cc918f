-- What instances leave open, where it agrees, can be written in its order.
use Rattle.std.proofs.Common.{◌≡◌, inl, inr, ◌||◌, ◌&&◌, ◌<◌, ℕ, Bool, true, false, List, [], length, map, Option, Some, None, refl, sym, ap, subst, ◌∙◌}
use Rattle.std.specs.Prelude.{bytes_eq, slice_get, IsSome}
use Rattle.std.specs.List.{AllByRecursion}
use Rattle.std.proofs.lemmas.Bool.{and_from, and_parts, or_left, or_right}
use Rattle.std.proofs.lemmas.Slice.Eq.{bytes_eq-Decides}
use Rattle.compose_left.specs.declared.spots.Thing.{Thing}
use Rattle.compose_left.specs.Wiring.{Wiring}
use Rattle.compose_needs.specs.Lefts.{Lefts, lefts_of}
use Rattle.compose_needs.specs.Mentioned.{has, mentioned}
use Rattle.compose_needs.specs.Tied.{are_tied, entity_holds_tied}
use Rattle.compose_order.specs.Agreed.{AreOrdered}
use Rattle.compose_order.specs.Brought.{Brings, IsBrought}
use Rattle.compose_order.specs.Needs.{LeftTree, is_brought, is_of, is_own, left_places, thing_of}
use Rattle.compose_writing.specs.Scopes.{WrittenScope}
use Rattle.compose_known.specs.InOrder.{IsInOrder}
use Rattle.compose_naming.specs.Settled.{settled}
use Rattle.compose_check.specs.Open.{Asked, all_agree, left_open, lefts}
use Rattle.compose_image.specs.Writable.{AreWritable}
use Rattle.compose_known.proofs.AgreeLaws.{stands_keyed}
use Rattle.compose_known.proofs.CalledLaws.{CallsWhatStands, IsNamedWell, all_called_right, all_then}
use Rattle.compose_known.proofs.FormLaws.{IsAsked, KeepsLeft, ShapeKeeps, all_asked, form_still}
use Rattle.compose_known.proofs.KnowLaws.{IsOpen}
use Rattle.compose_known.proofs.MergeLaws.{AllMention, Calls, HaveOwnNames, Mentions, all_at, calls_called, calls_itself, mention_still, merged_keeps, offered, offers_calls, own_names_still}
use Rattle.compose_known.proofs.OriginLaws.{comes, numbered}
use Rattle.compose_known.proofs.PlacedLaws.{placed_mentions}
use Rattle.compose_known.proofs.TurnLaws.{IsFit, NeedsOther, turns_writable}

-- what a left import brings or exports is its own
brings_own : (left : Lefts) (l : LeftTree) (t : Thing) → Brings left l t → is_own left l t ≡ true
brings_own left l t (inl b) =
    and_from (has (map thing_of l.calls) t) (t.is_type || is_of l.name (left t.number)) b.1
    (or_right t.is_type (is_of l.name (left t.number))
    (ap (is_of l.name) b.2 ∙ (bytes_eq-Decides l.name l.name).1 refl))
brings_own left l t (inr e) =
    and_from (has (map thing_of l.calls) t) (t.is_type || is_of l.name (left t.number)) e.1
    (or_left t.is_type (is_of l.name (left t.number)) e.0)

no_truth : (b : Bool) → b ≡ true → b ≡ false → ⊥
no_truth true h k = absurd cc
no_truth false h k = absurd cc

some_of : (o : Option (List ℕ)) → IsSome o → (m : List ℕ) × (o ≡ Some m)
some_of None h = absurd cc
some_of (Some m) h = (m, refl)

-- what is mentioned has the number of a thing of an instance that is there
abbrev OfInstance : Wiring → Thing → Type 0
OfInstance w t = (i : ℕ) × (i < length w.shapes) × (x : Thing) × (t ≡ numbered w i x)

module _ (w : Wiring) (keep : AllByRecursion ShapeKeeps w.shapes) where
  all_numbered : AllMention (OfInstance w) (lefts w)
  all_numbered =
      merged_keeps (IsAsked w) (AllMention (OfInstance w)) (λ ls x a h. mention_still (OfInstance w) ls x (mention a) h)
      (left_open w) [] (all_asked w keep) tt
    where
      mention : {x : Asked} → IsAsked w x → Mentions (OfInstance w) x.1
      mention {x} a t h =
          let p = placed_mentions w a.instance a.entity t (ap (λ e. has (mentioned e) t) (sym a.is) ∙ h) in
          (a.instance, a.there, p.0, p.1)

  all_named : HaveOwnNames (lefts w)
  all_named = merged_keeps (IsAsked w) HaveOwnNames (λ ls x a h. own_names_still ls x h) (left_open w) []
      (all_asked w keep) tt

  all_formed : AllByRecursion KeepsLeft (lefts w)
  all_formed = merged_keeps (IsAsked w) (AllByRecursion KeepsLeft) (λ ls x a h. form_still ls x a.keeps h) (left_open w)
      [] (all_asked w keep) tt

  -- what comes from a left import is called in the first import of its name
  origin_called : (t : Thing) (m : List ℕ) → OfInstance w t → lefts_of w t.number ≡ Some m → Calls (lefts w) m t
  origin_called t m o h =
      let from = comes w o.0 o.2 m o.1 (sym (ap (λ (t : Thing). lefts_of w t.number) o.3) ∙ h) in
      subst (Calls (lefts w) m) (sym o.3) (offers_calls (left_open w) [] m (numbered w o.0 o.2)
      (offered w (numbered w o.0 o.2) m from))

  module _ (agreed : all_agree [] (left_open w) ≡ true)
      (orders : AllByRecursion (λ (l : LeftTree). IsInOrder (settled l).entity) (lefts w))
      (rule : (l : LeftTree) → is_brought (lefts_of w) l ≡ true → IsBrought (lefts_of w) l)
      (brought : AllByRecursion (λ (l : LeftTree). is_brought (lefts_of w) l ≡ true) (lefts w)) where
    others : (n : ℕ) (l : LeftTree) → slice_get (lefts w) n ≡ Some l → (t : Thing) → has (mentioned l.entity) t ≡ true
        → is_own (lefts_of w) l t ≡ false → NeedsOther (lefts_of w) (lefts w) l t
    others n l there t h own =
        let b = rule l (all_at (λ (l : LeftTree). is_brought (lefts_of w) l ≡ true)
        (lefts w) n l brought there) in
        let m = some_of (lefts_of w t.number) (b.origins t
        (h, λ brings. no_truth (is_own (lefts_of w) l t) (brings_own (lefts_of w) l t brings) own)) in
        let calls = origin_called t m.0 (all_at (λ (l : LeftTree). Mentions (OfInstance w) l.entity)
        (lefts w) n l all_numbered there t h) m.1 in
        go m.0 m.1 calls (bytes_eq l.name m.0) refl
      where
        own_after : (m : List ℕ) → lefts_of w t.number ≡ Some m → bytes_eq l.name m ≡ true
            → has (map thing_of l.calls) t ≡ true → is_own (lefts_of w) l t ≡ true
        own_after m e same called =
            and_from (has (map thing_of l.calls) t) (t.is_type || is_of l.name (lefts_of w t.number)) called
            (or_right t.is_type (is_of l.name (lefts_of w t.number)) (ap (is_of l.name) e ∙ same))

        go : (m : List ℕ) → lefts_of w t.number ≡ Some m → Calls (lefts w) m t → (b : Bool) → bytes_eq l.name m ≡ b
            → NeedsOther (lefts_of w) (lefts w) l t
        go m e calls true same =
            let itself = calls_itself (lefts w) n l t all_named there
            (subst (λ m. Calls (lefts w) m t) (sym ((bytes_eq-Decides l.name m).0 same)) calls) in
            absurd (no_truth (is_own (lefts_of w) l t) (own_after m e same itself) own)
        go m e calls false apart =
            let c = calls_called (lefts w) m t calls in
            record {
              other =
                  m;
              origin = e;
              apart = apart;
              number = c.number;
              import = c.import;
              place = c.place;
              there = c.there;
              called = c.called;
            }

    calls : AllByRecursion CallsWhatStands (lefts w)
    calls = all_called_right (left_open w) [] agreed
        (all_then (IsAsked w) IsNamedWell (left_open w) (λ x a. (a.own, a.placed)) (all_asked w keep)) tt

    all_fit : (n : ℕ) (l : LeftTree) → slice_get (lefts w) n ≡ Some l → IsFit (lefts_of w) (lefts w) l
    all_fit n l there =
        let form = all_at KeepsLeft (lefts w) n l all_formed there in
        let b = all_at (λ (l : LeftTree). is_brought (lefts_of w) l ≡ true) (lefts w) n l brought there in
        let parts = and_parts (are_tied [] (left_places (lefts_of w) l)) (entity_holds_tied l.entity) b in
        record {
          named = form.0;
          form = form.1;
          tied = parts.1;
          places = parts.0;
          calls = all_at CallsWhatStands (lefts w) n l calls there;
          in_order = all_at (λ (l : LeftTree). IsInOrder (settled l).entity) (lefts w) n l orders there;
          resources = stands_keyed (lefts_of w) l (all_at CallsWhatStands (lefts w) n l calls there);
          others = others n l there;
        }

  pub agreed_writable : (out : List LeftTree) (ms : List WrittenScope) → IsOpen ms → all_agree [] (left_open w) ≡ true
      → AllByRecursion (λ (l : LeftTree). IsInOrder (settled l).entity) (lefts w)
      → ((l : LeftTree) → is_brought (lefts_of w) l ≡ true → IsBrought (lefts_of w) l)
      → AreOrdered (lefts_of w) (lefts w) out → AreWritable (map settled out) ms
  agreed_writable out ms o agreed orders rule ordered =
      subst (λ ls. AreWritable (map settled ls) ms) (sym ordered.written)
      (turns_writable (lefts_of w) (lefts w) (all_fit agreed orders rule ordered.numbered.brought) ordered.order
      [] _ ms ordered.numbered.in_order (λ n l t h. absurd cc) o)
