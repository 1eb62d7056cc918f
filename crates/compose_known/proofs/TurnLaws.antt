-- Imports written in their order: what each of them needs of others is known by then.
use Rattle.std.proofs.Common.{◌≡◌, ◌⊎◌, inl, inr, ◌||◌, ◌==◌, ◌<◌, ℕ, Bool, true, false, List, [], ◌∷◌, ◌++◌, length, map, Option, Some, None, refl, sym, ap, subst, ◌∙◌, append_assoc}
use Rattle.std.specs.Prelude.{bytes_eq, flat_map, option_map, option_to_list, slice_get, unwrap_or, if◌then◌else◌}
use Rattle.std.specs.List.{AllByRecursion, list_all, list_any}
use Rattle.std.proofs.lemmas.Bool.{and_parts, eqb-true}
use Rattle.std.proofs.lemmas.List.Folds.{list_any-append}
use Rattle.std.proofs.lemmas.Option.{get_or_from_slice_get, same_Some, slice_get-map}
use Rattle.comp_entity.specs.Names.{OfResource, OfPlace, changing}
use Rattle.comp_entity.specs.Places.{leaves_of, same_mention}
use Rattle.compose_agree.specs.Order.{Takes, is_ready, needs_at}
use Rattle.compose_agree.specs.Order.{has as has_number}
use Rattle.compose_left.specs.declared.spots.Spot.{Spot}
use Rattle.compose_left.specs.declared.spots.Thing.{Thing}
use Rattle.compose_left.specs.Origins.{same_thing}
use Rattle.compose_needs.specs.Lefts.{Lefts}
use Rattle.compose_needs.specs.Mentioned.{has, mentioned}
use Rattle.compose_needs.specs.ThingLaws.{same_things}
use Rattle.compose_needs.specs.Tied.{are_tied, entity_holds_tied}
use Rattle.compose_order.specs.Agreed.{all_needs, in_turn, number_of, numbers_needed, numbers_of}
use Rattle.compose_order.specs.Needs.{LeftTree, is_own, left_places, need_of, other_name, place_named, thing_of}
use Rattle.compose_writing.specs.Conditions.{KeepsForm}
use Rattle.compose_writing.specs.Scopes.{WrittenScope, knows}
use Rattle.compose_image.specs.Writable.{AreWritable}
use Rattle.compose_naming.specs.Settled.{names_of, settled, written_as}
use Rattle.compose_known.specs.InOrder.{IsInOrder}
use Rattle.compose_known.proofs.BehindLaws.{key_of}
use Rattle.compose_known.proofs.KnowLaws.{Grows, Imported, IsOpen, KnowsType, each_known, leaf_keys, left_imported}
use Rattle.compose_known.proofs.MentionLaws.{has_either}
use Rattle.compose_known.proofs.CalledLaws.{CallsWhatStands}
use Rattle.compose_known.proofs.FormLaws.{entity_keeps}
use Rattle.compose_known.proofs.SettledLaws.{settled_known}
use Rattle.compose_known.proofs.TopLaws.{NeedsKnown}

-- ---- what is called in an import is known once it is written

-- each resource that those that need an import call there stands in it
abbrev pub ResourcesStand : LeftTree → Type 0
ResourcesStand l =
    (t : Thing) → has (map thing_of l.calls) t ≡ true → t.is_type ≡ false
    → list_any (same_mention (key_of t)) (leaf_keys (leaves_of [] l.entity)) ≡ true

type_known : (ms : List WrittenScope) (spots : List Spot) (t : Thing) → AllByRecursion (KnowsType ms) spots
    → has (map thing_of spots) t ≡ true → t.is_type ≡ true → knows ms (key_of t) ≡ true
type_known ms [] t a h is = absurd cc
type_known ms (s ∷ ss) t a h is = go (has_either (s.what ∷ []) (map thing_of ss) t h) (λ k. type_known ms ss t a.1 k is)
  where
    one : (x : Thing) → (x.is_type ≡ true → knows ms (OfPlace (record { out = x.out; number = x.number })) ≡ true)
        → x ≡ t → knows ms (key_of t) ≡ true
    one x k e = ap (λ b. knows ms (if b then OfPlace (record { out = t.out; number = t.number }) else OfResource
        (record { out = t.out; number = t.number }))) is
        ∙ ap (λ (x : Thing). knows ms (OfPlace (record { out = x.out; number = x.number }))) (sym e)
        ∙ k (ap (λ (x : Thing). x.is_type) e ∙ is)

    same : has (s.what ∷ []) t ≡ true → s.what ≡ t
    same h = from (same_thing s.what t) refl h
      where
        from : (b : Bool) → same_thing s.what t ≡ b → b || false ≡ true → s.what ≡ t
        from true e h = same_things s.what t e
        from false e h = absurd cc

    go : (has (s.what ∷ []) t ≡ true) ⊎ (has (map thing_of ss) t ≡ true)
        → (has (map thing_of ss) t ≡ true → knows ms (key_of t) ≡ true) → knows ms (key_of t) ≡ true
    go (inl k) rest = one s.what a.0 (same k)
    go (inr k) rest = rest k

called_known : (l : LeftTree) (ms later : List WrittenScope) (t : Thing) → Imported l ms later → ResourcesStand l
    → has (map thing_of l.calls) t ≡ true → knows later (key_of t) ≡ true
called_known l ms later t i r h = go t.is_type refl
  where
    go : (b : Bool) → t.is_type ≡ b → knows later (key_of t) ≡ true
    go true e = type_known later l.calls t i.types h e
    go false e = each_known later (leaf_keys (leaves_of [] l.entity)) (key_of t) i.keys (r t h e)

-- ---- what is needed is among the needs

number_needed : (ls : List LeftTree) (done : List ℕ) (names : List (List ℕ)) (more : List (List ℕ)) (other : List ℕ)
    → list_all (has_number done) (numbers_of ls (names ++ other ∷ more)) ≡ true
    → has_number done (number_of ls other) ≡ true
number_needed ls done [] more other h =
    (and_parts (has_number done (number_of ls other)) (list_all (has_number done) (numbers_of ls more)) h).0
number_needed ls done (n ∷ names) more other h =
    number_needed ls done names more other (and_parts (has_number done (number_of ls n))
    (list_all (has_number done) (numbers_of ls (names ++ other ∷ more))) h).1

need_is : (left : Lefts) (l : LeftTree) (t : Thing) (other : List ℕ) → is_own left l t ≡ false
    → left t.number ≡ Some other → bytes_eq l.name other ≡ false → need_of left l t ≡ other ∷ []
need_is left l t other own origin apart =
    ap (λ b. if b then [] else other_name l.name (left t.number)) own ∙ ap (other_name l.name) origin
    ∙ ap (λ b. if b then [] else other ∷ []) apart

-- a name is among some
pub record IsAmong (names : List (List ℕ)) (name : List ℕ) : Type 0 where
  pub before : List (List ℕ)
  pub after : List (List ℕ)
  pub is : names ≡ before ++ name ∷ after

needed_among : (left : Lefts) (l : LeftTree) (ts : List Thing) (t : Thing) (other : List ℕ)
    → need_of left l t ≡ other ∷ [] → has ts t ≡ true → IsAmong (flat_map (need_of left l) ts) other
needed_among left l [] t other need h = absurd cc
needed_among left l (x ∷ ts) t other need h =
    go (has_either (x ∷ []) ts t h) (λ k. needed_among left l ts t other need k)
  where
    same : has (x ∷ []) t ≡ true → x ≡ t
    same h = from (same_thing x t) refl h
      where
        from : (b : Bool) → same_thing x t ≡ b → b || false ≡ true → x ≡ t
        from true e h = same_things x t e
        from false e h = absurd cc

    go : (has (x ∷ []) t ≡ true) ⊎ (has ts t ≡ true) → (has ts t ≡ true → IsAmong (flat_map (need_of left l) ts) other)
        → IsAmong (flat_map (need_of left l) (x ∷ ts)) other
    go (inl k) rest =
        record {
          before =
              [];
          after = flat_map (need_of left l) ts;
          is = ap (λ xs. xs ++ flat_map (need_of left l) ts)
              (ap (need_of left l) (same k) ∙ need);
        }
    go (inr k) rest =
        let r = rest k in record {
          before = need_of left l x ++ r.before;
          after = r.after;
          is = ap
              (λ xs. need_of left l x ++ xs) r.is ∙ sym (append_assoc (need_of left l x) r.before (other ∷ r.after));
        }

-- ---- imports in turn

module _ (left : Lefts) (ls : List LeftTree) where
  -- what an import needs of another is called there
  pub record NeedsOther (l : LeftTree) (t : Thing) : Type 0 where
    pub other : List ℕ
    pub origin : left t.number ≡ Some other
    pub apart : bytes_eq l.name other ≡ false
    pub number : ℕ
    pub import : LeftTree
    pub place : place_named ls other ≡ Some number
    pub there : slice_get ls number ≡ Some import
    pub called : has (map thing_of import.calls) t ≡ true

  -- what is seen to of an import
  pub record IsFit (l : LeftTree) : Type 0 where
    pub named : 0 < length l.name
    pub form : KeepsForm l.entity
    pub tied : entity_holds_tied l.entity ≡ true
    pub places : are_tied [] (left_places left l) ≡ true
    pub calls : CallsWhatStands l
    pub in_order : IsInOrder (settled l).entity
    pub resources : ResourcesStand (settled l)
    pub others : (t : Thing) → has (mentioned l.entity) t ≡ true → is_own left l t ≡ false → NeedsOther l t

  abbrev AllFit : Type 0
  AllFit = (n : ℕ) (l : LeftTree) → slice_get ls n ≡ Some l → IsFit l

  -- The scopes know what is called in each import that was written.
  abbrev KnowWritten : List ℕ → List WrittenScope → Type 0
  KnowWritten done ms =
      (n : ℕ) (l : LeftTree) (t : Thing) → has_number done n ≡ true → slice_get ls n ≡ Some l
      → has (map thing_of l.calls) t ≡ true → knows ms (key_of t) ≡ true

  needs_there : (n : ℕ) (l : LeftTree) → slice_get ls n ≡ Some l
      → needs_at (all_needs left ls) n ≡ numbers_needed left ls l
  needs_there n l there =
      get_or_from_slice_get (all_needs left ls) n (numbers_needed left ls l) []
      (slice_get-map (numbers_needed left ls) ls n ∙ ap (option_map (numbers_needed left ls)) there)

  needs_known : (done : List ℕ) (ms : List WrittenScope) (n : ℕ) (l : LeftTree) → slice_get ls n ≡ Some l
      → is_ready (all_needs left ls) done n ≡ true → KnowWritten done ms → IsFit l → NeedsKnown left l (knows ms)
  needs_known done ms n l there ready knew fit t h own =
      let o = fit.others t h own in
      let among = needed_among left l (mentioned l.entity) t o.other
      (need_is left l t o.other own o.origin o.apart) h in
      let all : list_all (has_number done) (numbers_of ls (among.before ++ o.other ∷ among.after)) ≡ true =
      ap (λ names. list_all (has_number done) (numbers_of ls names)) (sym among.is)
      ∙ ap (list_all (has_number done)) (sym (needs_there n l there)) ∙ ready in
      let number : number_of ls o.other ≡ o.number = ap (λ p. unwrap_or p (length ls)) o.place in
      knew o.number o.import t (ap (has_number done) (sym number)
      ∙ number_needed ls done among.before among.after o.other all) o.there o.called

  known_still : (done : List ℕ) (n : ℕ) (ms later : List WrittenScope) → Grows ms later → KnowWritten done ms
      → ((l : LeftTree) (t : Thing) → slice_get ls n ≡ Some l → has (map thing_of l.calls) t ≡ true
      → knows later (key_of t) ≡ true) → KnowWritten (done ++ n ∷ []) later
  known_still done n ms later grows knew here k l t h there called =
      go (either (has_number done k) (has_number (n ∷ []) k) (sym (list_any-append (λ m. m == k) done (n ∷ [])) ∙ h))
    where
      either : (a b : Bool) → a || b ≡ true → (a ≡ true) ⊎ (b ≡ true)
      either true b h = inl refl
      either false b h = inr h

      only : (b : Bool) → (n == k) ≡ b → b || false ≡ true → n ≡ k
      only true e h = eqb-true n k e
      only false e h = absurd cc

      go : (has_number done k ≡ true) ⊎ (has_number (n ∷ []) k ≡ true) → knows later (key_of t) ≡ true
      go (inl h) = grows (key_of t) (knew k l t h there called)
      go (inr h) = here l t (ap (slice_get ls) (only (n == k) refl h) ∙ there) called

  pub turns_writable : AllFit → (taken done all : List ℕ) (ms : List WrittenScope)
      → Takes (is_ready (all_needs left ls)) done all taken [] → KnowWritten done ms → IsOpen ms
      → AreWritable (map settled (in_turn ls taken)) ms
  turns_writable fit [] done all ms takes knew o = tt
  turns_writable fit (n ∷ taken) done all ms takes knew o =
      go (slice_get ls n) refl (λ later grows still here. turns_writable fit taken (done ++ n ∷ [])
      (takes.0 ++ takes.1) later takes.5 (known_still done n ms later grows knew here) still)
    where
      go : (found : Option LeftTree) → slice_get ls n ≡ found
          → ((later : List WrittenScope) → Grows ms later → IsOpen later
          → ((l : LeftTree) (t : Thing) → slice_get ls n ≡ Some l → has (map thing_of l.calls) t ≡ true
          → knows later (key_of t) ≡ true) → AreWritable (map settled (in_turn ls taken)) later)
          → AreWritable (map settled (option_to_list found ++ in_turn ls taken)) ms
      go None there rest = rest ms (λ key h. h) o (λ l t h. absurd cc)
      go (Some l) there rest =
          let f = fit n l there in (
            record {
              named =
                  f.named;
              form =
                  entity_keeps (changing (λ n. n) (written_as (names_of l))) 0 l.entity f.form;
              known =
                  settled_known left l (knows ms) f.form f.tied f.places f.calls f.in_order
                  (needs_known done ms n l there takes.4 knew f);
            },
            λ next is.
                let i = left_imported (settled l) ms next o is in
                rest next i.grows i.open_still (λ m t at called.
                let same : l ≡ m = same_Some l m (sym there ∙ at) in
                called_known (settled m) ms next t (subst (λ (m : LeftTree). Imported (settled m) ms next) same i)
                (subst (λ (m : LeftTree). ResourcesStand (settled m)) same f.resources) called),
          )
