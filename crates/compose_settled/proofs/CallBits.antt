-- Left imports that are passed, one behind the other, have their naming bits, and what is called in them those of what stands
-- there.
use Rattle.std.proofs.Common.{◌≡◌, Bool, true, false, cond, List, [], ◌∷◌, ◌++◌, map, Option, Some, None, refl, sym, ap, subst, ◌∙◌}
use Rattle.std.specs.Prelude.{filter, nat_lt, option_and_then}
use Rattle.std.proofs.lemmas.Option.{same_Some}
use Rattle.comp_entity.specs.Entity.{Name, ValueTree, EntityTree}
use Rattle.comp_entity.specs.Fits.{place_of}
use Rattle.comp_entity.specs.Names.{Mention, OfPlace}
use Rattle.compose_left.specs.declared.spots.Spot.{Spot as Call}
use Rattle.compose_needs.specs.declared.leaves.Leaf.{Leaf}
use Rattle.compose_needs.specs.Leaves.{leaves_at}
use Rattle.compose_order.specs.Needs.{LeftTree}
use Rattle.compose_writing.specs.Conditions.{with_these}
use Rattle.compose_meaning.specs.Meaning.{Meaning}
use Rattle.compose_meaning.specs.Readable.{Spot}
use Rattle.compose_naming.specs.Bits.{Scope, behind, behind_call, behind_calls, behind_left, behind_lefts, bit_at, bit_in, called_where, outermost}
use Rattle.compose_naming.specs.GrownLaws.{call_grows, calls_grow, entity_grows, lefts_grow, no_truth, noted_there, so_before, then_some, where_noted}
use Rattle.compose_naming.specs.NamingBits.{Extends}
use Rattle.compose_naming.specs.Settled.{name_in, settled}
use Rattle.compose_origins.specs.Placed.{value_at}
use Rattle.compose_settled.specs.ReadBack.{AllRemainToRead, BitsMean, called_keys, first_import, is_type, key_of, known_behind, spot_behind, with_call}
use Rattle.compose_settled.specs.Stays.{AllStayToRead, Includes}
use Rattle.compose_settled.proofs.Paths.{named_there}
use Rattle.compose_settled.proofs.Remaining.{entity_included, keeps_known, noted_alone, remains, these_more}

some_scopes : (s t : List Scope) → Some s ≡ Some t → s ≡ t
some_scopes s t h = same_Some s t h

-- ---- one call

module _ (leaves : List Leaf) where
  call_included : (s : Scope) (around after : List Scope) (call : Call) (known : Mention → Bool) → Includes known (s ∷ around) → behind_call leaves (s ∷ around) call ≡ Some after → Includes (with_call known call) after
  call_included s around after call known included = one call.what.is_type
    where
      kept : (keys : List Mention) → Some (s ∷ around) ≡ Some after → Includes (with_these known keys) after
      kept keys h = subst (Includes (with_these known keys)) (some_scopes (s ∷ around) after h) (keeps_known known keys (s ∷ around) included)

      by : (o : Option Bool) → called_where (s ∷ around) (name_in call.what) (bit_at leaves (s ∷ around) call.path) o ≡ Some after → Includes (with_these known (key_of call ∷ [])) after
      by (Some b) h = kept (key_of call ∷ []) h
      by None h = let x = where_noted (name_in call.what) (bit_at leaves (s ∷ around) call.path) (s ∷ around) after h in noted_alone (name_in call.what) x.0 s around after known included x.2

      one : (x : Bool) → cond x (called_where (s ∷ around) (name_in call.what) (bit_at leaves (s ∷ around) call.path) (bit_in (s ∷ around) (name_in call.what))) (Some (s ∷ around)) ≡ Some after
          → Includes (with_these known (map key_of (cond x (call ∷ []) []))) after
      one true h = by (bit_in (s ∷ around) (name_in call.what)) h
      one false h = kept [] h

-- of what is called, and was not known, the bit is that of what stands there
module _ (bit : Name → Bool) (e : EntityTree) where
  call_bit : (s : Scope) (around after : List Scope) (call : Call) (known : Mention → Bool) → Includes known (s ∷ around)
      → behind_call (leaves_at e) (s ∷ around) call ≡ Some after → Extends bit after
      → call.what.is_type ≡ true → known (key_of call) ≡ false → (t : ValueTree) (r : Name) → value_at call.path e ≡ Some t → place_of t ≡ Some r
      → bit (name_in call.what) ≡ bit r
  call_bit s around after call known included passed so kind new t r there named =
      by (bit_in (s ∷ around) (name_in call.what)) refl
      ((λ i. cond (sym kind i) (called_where (s ∷ around) (name_in call.what) (bit_at (leaves_at e) (s ∷ around) call.path) (bit_in (s ∷ around) (name_in call.what))) (Some (s ∷ around))) ∙ passed)
    where
      by : (o : Option Bool) → bit_in (s ∷ around) (name_in call.what) ≡ o → called_where (s ∷ around) (name_in call.what) (bit_at (leaves_at e) (s ∷ around) call.path) o ≡ Some after
          → bit (name_in call.what) ≡ bit r
      by (Some b) is h = no_truth (sym (included (name_in call.what) b is) ∙ new)
      by None is h =
          let x = where_noted (name_in call.what) (bit_at (leaves_at e) (s ∷ around) call.path) (s ∷ around) after h in
          let stands : bit_in (s ∷ around) r ≡ Some x.0 = ap (option_and_then (bit_in (s ∷ around))) (sym (named_there call.path e t r there named)) ∙ x.1 in
          so (name_in call.what) x.0 (noted_there (name_in call.what) x.0 s around after x.2)
          ∙ sym (so_before bit s around after (call_grows (leaves_at e) s around after call passed) so r x.0 stands)

-- ---- all that is called

calls_more : (known : Mention → Bool) (c : Call) (calls : List Call) → with_these (with_call known c) (called_keys calls) ≡ with_these known (called_keys (c ∷ calls))
calls_more known c calls = these_more known (called_keys (c ∷ [])) (called_keys calls) ∙ ap (with_these known) (one c.what.is_type)
  where
    one : (b : Bool) → (map key_of (cond b (c ∷ []) []) ++ called_keys calls) ≡ map key_of (cond b (c ∷ filter is_type calls) (filter is_type calls))
    one true = refl
    one false = refl

calls_included : (leaves : List Leaf) (calls : List Call) (s : Scope) (around after : List Scope) (known : Mention → Bool) → Includes known (s ∷ around)
    → behind_calls leaves calls (s ∷ around) ≡ Some after → Includes (with_these known (called_keys calls)) after
calls_included leaves [] s around after known included h = subst (Includes (with_these known [])) (some_scopes (s ∷ around) after h) (keeps_known known [] (s ∷ around) included)
calls_included leaves (c ∷ calls) s around after known included h =
    let x = then_some (behind_calls leaves calls) (behind_call leaves (s ∷ around) c) after h in
    let g = call_grows leaves s around x.0 c x.1 in
    subst (λ k. Includes k after) (calls_more known c calls)
    (calls_included leaves calls g.top around after (with_call known c)
    (subst (Includes (with_call known c)) g.is (call_included leaves s around x.0 c known included x.1))
    (ap (behind_calls leaves calls) (sym g.is) ∙ x.2))

calls_bits : (mean : Meaning) (e : EntityTree) (calls : List Call) (s : Scope) (around after : List Scope) (known : Mention → Bool) → Includes known (s ∷ around)
    → behind_calls (leaves_at e) calls (s ∷ around) ≡ Some after → Extends mean.bit after → BitsMean mean e known calls
calls_bits mean e [] s around after known included h so = tt
calls_bits mean e (c ∷ calls) s around after known included h so =
    let x = then_some (behind_calls (leaves_at e) calls) (behind_call (leaves_at e) (s ∷ around) c) after h in
    let g = call_grows (leaves_at e) s around x.0 c x.1 in
    let rest = ap (behind_calls (leaves_at e) calls) (sym g.is) ∙ x.2 in
    let between = so_before mean.bit g.top around after (calls_grow (leaves_at e) calls g.top around after rest) so in (
      call_bit mean.bit e s around x.0 c known included x.1 (subst (Extends mean.bit) (sym g.is) between),
      calls_bits mean e calls g.top around after (with_call known c)
          (subst (Includes (with_call known c)) g.is (call_included (leaves_at e) s around x.0 c known included x.1)) rest so,
    )

-- ---- one import behind the other

pub lefts_remain : (mean : Meaning) (ls : List LeftTree) (p : Spot) (s : Scope) (around after : List Scope) → Includes p.known (s ∷ around)
    → behind_lefts ls (s ∷ around) ≡ Some after → Extends mean.bit after → AllStayToRead mean p ls → AllRemainToRead mean p ls
lefts_remain mean [] p s around after included h so stay = tt
lefts_remain mean (l ∷ ls) p s around after included h so stay =
    let e = (settled l).entity in
    let x = then_some (behind_lefts ls) (behind_left l (s ∷ around)) after h in
    let y = then_some (behind_calls (leaves_at e) l.calls) (behind e (s ∷ around)) x.0 x.1 in
    let g = entity_grows e s around y.0 y.1 in
    let calls = ap (behind_calls (leaves_at e) l.calls) (sym g.is) ∙ y.2 in
    let k = calls_grow (leaves_at e) l.calls g.top around x.0 calls in
    let rest = ap (behind_lefts ls) (sym k.is) ∙ x.2 in
    let after_it = so_before mean.bit k.top around after (lefts_grow ls k.top around after rest) so in
    let so_calls = subst (Extends mean.bit) (sym k.is) after_it in
    let so_entity = subst (Extends mean.bit) (sym g.is) (so_before mean.bit g.top around x.0 k so_calls) in
    let known = subst (Includes (known_behind p.known e)) g.is (entity_included e s around y.0 p.known included y.1) in (
      record {
        meaning = remains mean p e s around y.0 stay.0.stays included y.1 so_entity;
        apart = stay.0.apart;
        bits = calls_bits mean e l.calls g.top around x.0 (known_behind p.known e) known calls so_calls;
      },
      lefts_remain mean ls (spot_behind mean p (settled l)) k.top around after
          (subst (Includes (with_these (known_behind p.known e) (called_keys l.calls))) k.is (calls_included (leaves_at e) l.calls g.top around x.0 (known_behind p.known e) known calls))
          rest so stay.1,
    )

-- nothing was named before the first
pub first_included : (mean : Meaning) → Includes first_import.known outermost
first_included mean n b h = by (nat_lt n.out 2) h
  where
    by : (x : Bool) → cond x None None ≡ Some b → first_import.known (OfPlace n) ≡ true
    by true h = absurd cc
    by false h = absurd cc
