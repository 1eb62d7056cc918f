-- An entity that is passed has its naming bits.
use Rattle.std.proofs.Common.{◌≡◌, ℕ, Bool, true, false, cond, List, [], ◌∷◌, ◌++◌, Option, Some, None, refl, sym, ap, subst, ◌∙◌}
use Rattle.std.specs.Prelude.{◌||◌, nat_lt, option_and_then, option_map}
use Rattle.std.specs.List.{list_any}
use Rattle.std.proofs.lemmas.List.Folds.{list_any-append}
use Rattle.std.proofs.lemmas.Option.{same_Some}
use Rattle.comp_entity.specs.Entity.{Name, ValueTree, TypeShapeTree, Value, Resource, Func, Instance, Component, EntityTree, IsType, IsFunc, IsInstance, IsComponent, IsModule, IsOwnModule, Entries, no_entry, entry}
use Rattle.comp_entity.specs.Fits.{place_of, same_name}
use Rattle.comp_entity.specs.Names.{Mention, OfPlace, OfResource}
use Rattle.comp_entity.specs.Places.{named_value, same_mention}
use Rattle.compose_writing.specs.Conditions.{with_these}
use Rattle.compose_writing.specs.Keys.{from_within, holds_there, name_outside}
use Rattle.compose_meaning.specs.Meaning as meaning
use Rattle.compose_meaning.specs.Meaning.{Meaning}
use Rattle.compose_meaning.specs.Readable.{Exporting, Importing, Spot, by_scope, brought_keys, exports_spot, first_spot, in_component_type, in_instance_type, keys_among, within}
use Rattle.compose_meaning.specs.Readable as readable
use Rattle.compose_coherence.specs.Remaining.{AllRemain, InComponent, Remains, TypeRemains, own_meaning}
use Rattle.compose_naming.specs.Bits.{Scope, behind, behind_all, behind_place, behind_type, bit_in, closed, func_has_bit, further_out, is_set, named_in, noted, opened, own_bit, with_bit}
use Rattle.compose_naming.specs.GrownLaws.{Grown, all_grow, closed_is, entity_grows, grown_on, no_scopes, no_truth, noted_there, sides_are, so_before, then_some, where_noted}
use Rattle.compose_naming.specs.NamingBits.{Extends}
use Rattle.compose_settled.specs.Stays.{AllStay, Includes, Stays, TypeStays, Within}
use Rattle.compose_settled.proofs.ValueBits.{func_so, own_so}

-- ---- what is known

or_left : (a b : Bool) → a ≡ true → (a || b) ≡ true
or_left a b e = ap (λ x. x || b) e

or_right : (a b : Bool) → b ≡ true → (a || b) ≡ true
or_right true b e = refl
or_right false b e = e

or_or : (a b c : Bool) → ((a || b) || c) ≡ (a || (b || c))
or_or true b c = refl
or_or false b c = refl

pub these_more : (known : Mention → Bool) (a b : List Mention) → with_these (with_these known a) b ≡ with_these known (a ++ b)
these_more known a b = λ i m. one m i
  where
    one : (m : Mention) → with_these (with_these known a) b m ≡ with_these known (a ++ b) m
    one m =
        or_or (known m) (list_any (λ key. same_mention key m) a) (list_any (λ key. same_mention key m) b)
        ∙ ap (λ x. known m || x) (sym (list_any-append (λ key. same_mention key m) a b))

pub keeps_known : (known : Mention → Bool) (keys : List Mention) (scopes : List Scope) → Includes known scopes → Includes (with_these known keys) scopes
keeps_known known keys scopes h n b e = or_left (known (OfPlace n)) (list_any (λ key. same_mention key (OfPlace n)) keys) (h n b e)

known_all : (mean : Meaning) (es : Entries) (p : Spot) → (readable.behind_all mean p es).known ≡ with_these p.known (keys_among es)
unfolding readable.behind_all
known_all mean no_entry p = λ i m. nothing (p.known m) i
  where
    nothing : (b : Bool) → b ≡ (b || false)
    nothing true = refl
    nothing false = refl
known_all mean (entry name e mark es) p =
    known_all mean es (readable.behind mean p name e) ∙ these_more p.known (brought_keys e) (keys_among es)

-- ---- what is noted

pub noted_alone : (n : Name) (b : Bool) (s : Scope) (around after : List Scope) (known : Mention → Bool) → Includes known (s ∷ around)
    → noted n b (s ∷ around) ≡ Some after → Includes (with_these known (OfPlace n ∷ [])) after
noted_alone n b s around after known h = one (nat_lt n.out s.width)
  where
    among : (m : Name) (c : Bool) → (x : Bool) → nat_lt m.out s.width ≡ x
        → cond x (cond (same_name n m) (Some b) (s.bits m)) (bit_in around (further_out s.width m)) ≡ Some c
        → with_these known (OfPlace n ∷ []) (OfPlace m) ≡ true
    among m c false e is = or_left (known (OfPlace m)) (same_name n m || false) (h m c ((λ i. cond (e i) (s.bits m) (bit_in around (further_out s.width m))) ∙ is))
    among m c true e is = by (same_name n m) is
      where
        by : (y : Bool) → cond y (Some b) (s.bits m) ≡ Some c → (known (OfPlace m) || (y || false)) ≡ true
        by true is = or_right (known (OfPlace m)) true refl
        by false is = or_left (known (OfPlace m)) false (h m c ((λ i. cond (e i) (s.bits m) (bit_in around (further_out s.width m))) ∙ is))

    one : (x : Bool) → cond x (Some (with_bit n b s ∷ around)) None ≡ Some after → Includes (with_these known (OfPlace n ∷ [])) after
    one false e = no_scopes after e
    one true e = λ m c is. among m c (nat_lt m.out s.width) refl (ap (λ scopes. bit_in scopes m) (same_Some (with_bit n b s ∷ around) after e) ∙ is)

place_included : (t : ValueTree) (n : Name) (s : Scope) (around after : List Scope) (known : Mention → Bool) → Includes known (s ∷ around)
    → behind_place (s ∷ around) t (Some n) ≡ Some after → Includes (with_these known (OfPlace n ∷ [])) after
place_included t n s around after known h = one (bit_in (s ∷ around) n)
  where
    one : (o : Option Bool) → named_in (s ∷ around) t n o ≡ Some after → Includes (with_these known (OfPlace n ∷ [])) after
    one (Some b) is = subst (Includes (with_these known (OfPlace n ∷ []))) (same_Some (s ∷ around) after is) (keeps_known known (OfPlace n ∷ []) (s ∷ around) h)
    one None is = let x = where_noted n (own_bit (bit_in (s ∷ around)) t) (s ∷ around) after is in noted_alone n x.0 s around after known h x.2

-- nothing new is named
none_included : (keys : List Mention) (scopes after : List Scope) (known : Mention → Bool) → Includes known scopes → Some scopes ≡ Some after
    → Includes (with_these known keys) after
none_included keys scopes after known h is = subst (Includes (with_these known keys)) (same_Some scopes after is) (keeps_known known keys scopes h)

value_included : (t : ValueTree) (s : Scope) (around after : List Scope) (known : Mention → Bool) → Includes known (s ∷ around)
    → behind_place (s ∷ around) t (place_of t) ≡ Some after → Includes (with_these known (brought_keys (IsType (Value t)))) after
value_included t s around after known h = one (place_of t)
  where
    one : (o : Option Name) → behind_place (s ∷ around) t o ≡ Some after → Includes (with_these known (named_value o)) after
    one None is = none_included [] (s ∷ around) after known h is
    one (Some n) is = place_included t n s around after known h is

mutual
  pub entity_included : (e : EntityTree) (s : Scope) (around after : List Scope) (known : Mention → Bool) → Includes known (s ∷ around)
      → behind e (s ∷ around) ≡ Some after → Includes (with_these known (brought_keys e)) after
  entity_included (IsType (Value t)) s around after known h is = value_included t s around after known h is
  entity_included (IsType (Resource r)) s around after known h is = none_included (OfResource r ∷ []) (s ∷ around) after known h is
  entity_included (IsType (Func f)) s around after known h is = none_included [] (s ∷ around) after known h is
  entity_included (IsType (Instance es)) s around after known h is =
      let x = then_some closed (behind_all es (opened 1 ∷ s ∷ around)) after is in
      none_included [] (s ∷ around) after known h (closed_is 1 s around x.0 after (all_grow es (opened 1) (s ∷ around) x.0 x.1) x.2)
  entity_included (IsType (Component is es)) s around after known h passed = none_included [] (s ∷ around) after known h (sides_are is es s around after passed)
  entity_included (IsFunc f) s around after known h is = one (func_has_bit (bit_in (s ∷ around)) f) is
    where
      one : (x : Bool) → cond x (Some (s ∷ around)) None ≡ Some after → Includes (with_these known []) after
      one true is = none_included [] (s ∷ around) after known h is
      one false is = no_scopes after is
  entity_included (IsInstance es) s around after known h is = all_included es s around after known h is
  entity_included (IsComponent is es) s around after known h passed = none_included [] (s ∷ around) after known h (sides_are is es s around after passed)
  entity_included (IsModule m) s around after known h is = none_included [] (s ∷ around) after known h is
  entity_included IsOwnModule s around after known h is = none_included [] (s ∷ around) after known h is

  pub all_included : (es : Entries) (s : Scope) (around after : List Scope) (known : Mention → Bool) → Includes known (s ∷ around)
      → behind_all es (s ∷ around) ≡ Some after → Includes (with_these known (keys_among es)) after
  all_included no_entry s around after known h is = none_included [] (s ∷ around) after known h is
  all_included (entry name e mark es) s around after known h is =
      let x = then_some (behind_all es) (behind e (s ∷ around)) after is in
      let g = entity_grows e s around x.0 x.1 in
      subst (λ k. Includes k after) (these_more known (brought_keys e) (keys_among es))
      (all_included es g.top around after (with_these known (brought_keys e))
      (subst (Includes (with_these known (brought_keys e))) g.is (entity_included e s around x.0 known h x.1))
      (ap (behind_all es) (sym g.is) ∙ x.2))

-- ---- bits

value_remains : (mean : Meaning) (p : Spot) (t : ValueTree) (s : Scope) (around after : List Scope) → Includes p.known (s ∷ around)
    → behind_place (s ∷ around) t (place_of t) ≡ Some after → Grown s around after → Extends mean.bit after → readable.NewPlace mean p.known t (place_of t)
value_remains mean p t s around after included passed g so = one (place_of t) passed
  where
    new : (n : Name) → p.known (OfPlace n) ≡ false → (o : Option Bool) → bit_in (s ∷ around) n ≡ o → named_in (s ∷ around) t n o ≡ Some after → mean.bit n ≡ meaning.own_bit mean.bit t
    new n unknown (Some b) e passed = no_truth (sym (included n b e) ∙ unknown)
    new n unknown None e passed =
        let x = where_noted n (own_bit (bit_in (s ∷ around)) t) (s ∷ around) after passed in
        so n x.0 (noted_there n x.0 s around after x.2) ∙ sym (own_so (bit_in (s ∷ around)) mean.bit (so_before mean.bit s around after g so) t x.0 x.1)

    one : (o : Option Name) → behind_place (s ∷ around) t o ≡ Some after → readable.NewPlace mean p.known t o
    one None passed = tt
    one (Some n) passed = λ unknown. new n unknown (bit_in (s ∷ around) n) refl passed

-- ---- within a scope of its own

abbrev bit_of : Scope → Name → Bool
bit_of top n = is_set (top.bits n)

inner_included : (width : ℕ) (known : Mention → Bool) (scopes : List Scope) → Includes known scopes → Includes (from_within width known) (opened width ∷ scopes)
inner_included width known scopes h n b e = one (nat_lt n.out width) refl e
  where
    one : (x : Bool) → nat_lt n.out width ≡ x → cond x None (bit_in scopes (further_out width n)) ≡ Some b → from_within width known (OfPlace n) ≡ true
    one true lt e = absurd cc
    one false ge e =
        (λ i. holds_there known (option_map OfPlace (cond (ge i) None (Some (further_out width n))))) ∙ h (further_out width n) b e

inner_so : (width : ℕ) (bit : Name → Bool) (s : Scope) (around inner : List Scope) (g : Grown (opened width) (s ∷ around) inner) → Extends bit (s ∷ around)
    → Extends (λ n. by_scope (bit_of g.top n) bit (name_outside width n)) inner
inner_so width bit s around inner g h n b e =
    one (nat_lt n.out width) refl ((λ i. cond (nat_lt n.out (sym g.width i)) (g.top.bits n) (bit_in (s ∷ around) (further_out (sym g.width i) n))) ∙ ap (λ scopes. bit_in scopes n) (sym g.is) ∙ e)
  where
    one : (x : Bool) → nat_lt n.out width ≡ x → cond x (g.top.bits n) (bit_in (s ∷ around) (further_out width n)) ≡ Some b → by_scope (bit_of g.top n) bit (name_outside width n) ≡ b
    one true lt e = (λ i. by_scope (bit_of g.top n) bit (cond (lt i) None (Some (further_out width n)))) ∙ ap is_set e
    one false ge e = (λ i. by_scope (bit_of g.top n) bit (cond (ge i) None (Some (further_out width n)))) ∙ h (further_out width n) b e

-- ---- what remains

abbrev AllOf : Entries → Type 0
AllOf es = (mean : Meaning) (p : Spot) (s : Scope) (around after : List Scope) → AllStay mean p es → Includes p.known (s ∷ around)
    → behind_all es (s ∷ around) ≡ Some after → Extends mean.bit after → AllRemain mean p es

sides_remain : (mean : Meaning) (p : Spot) (is es : Entries) → AllOf is → AllOf es → (s : Scope) (around after : List Scope)
    → Within (λ own. AllStay (in_component_type own mean) (first_spot Importing (from_within 2 p.known)) is
    × AllStay (in_component_type own mean) (exports_spot (in_component_type own mean) (first_spot Importing (from_within 2 p.known)) is) es)
    × readable.IsNumbered is es
    → Includes p.known (s ∷ around)
    → option_and_then closed (option_and_then (behind_all es) (behind_all is (opened 2 ∷ s ∷ around))) ≡ Some after → Extends mean.bit after
    → InComponent mean (first_spot Importing (from_within 2 p.known)) is es (λ inner at. AllRemain inner at is) (λ inner at. AllRemain inner at es)
sides_remain mean p is es imports exports s around after stays included passed so =
    let x = then_some closed (option_and_then (behind_all es) (behind_all is (opened 2 ∷ s ∷ around))) after passed in
    let y = then_some (behind_all es) (behind_all is (opened 2 ∷ s ∷ around)) x.0 x.1 in
    let g = all_grow is (opened 2) (s ∷ around) y.0 y.1 in
    let behind_them = ap (behind_all es) (sym g.is) ∙ y.2 in
    let k = all_grow es g.top (s ∷ around) x.0 behind_them in
    let whole = grown_on (opened 2) (s ∷ around) y.0 x.0 g k in
    let outer = subst (Extends mean.bit) (sym (same_Some (s ∷ around) after (closed_is 2 s around x.0 after whole x.2))) so in
    let known = inner_included 2 p.known (s ∷ around) included in
    let inner = inner_so 2 mean.bit s around x.0 whole outer in
    let between = so_before (λ n. by_scope (bit_of whole.top n) mean.bit (name_outside 2 n)) g.top (s ∷ around) x.0 k inner in (
      bit_of whole.top,
      (λ tree.
          let mean_in = in_component_type (own_meaning (bit_of whole.top) tree) mean in
          let at = first_spot Importing (from_within 2 p.known) in (
            imports mean_in at (opened 2) (s ∷ around) y.0 (stays.0 (bit_of whole.top) tree).0 known y.1 (subst (Extends mean_in.bit) (sym g.is) between),
            exports mean_in (exports_spot mean_in at is) g.top (s ∷ around) x.0 (stays.0 (bit_of whole.top) tree).1
                (subst (λ k. Includes k (g.top ∷ s ∷ around)) (sym (known_all mean_in is at))
                (subst (Includes (with_these (from_within 2 p.known) (keys_among is))) g.is (all_included is (opened 2) (s ∷ around) y.0 (from_within 2 p.known) known y.1)))
                behind_them inner,
          )),
      stays.1,
    )

mutual
  type_remains : (mean : Meaning) (p : Spot) (t : TypeShapeTree) (s : Scope) (around after : List Scope) → TypeStays mean p t → Includes p.known (s ∷ around)
      → behind_type t (s ∷ around) ≡ Some after → Extends mean.bit after → TypeRemains mean p t
  type_remains mean p (Value t) s around after stays included passed so =
      value_remains mean p t s around after included passed (entity_grows (IsType (Value t)) s around after passed) so
  type_remains mean p (Resource r) s around after stays included passed so = stays
  type_remains mean p (Func f) s around after stays included passed so = tt
  type_remains mean p (Instance es) s around after stays included passed so =
      let x = then_some closed (behind_all es (opened 1 ∷ s ∷ around)) after passed in
      let g = all_grow es (opened 1) (s ∷ around) x.0 x.1 in
      let outer = subst (Extends mean.bit) (sym (same_Some (s ∷ around) after (closed_is 1 s around x.0 after g x.2))) so in (
        bit_of g.top,
        λ tree. all_remain (in_instance_type (own_meaning (bit_of g.top) tree) mean) (first_spot Exporting (from_within 1 p.known)) es
            (opened 1) (s ∷ around) x.0 (stays (bit_of g.top) tree) (inner_included 1 p.known (s ∷ around) included) x.1 (inner_so 1 mean.bit s around x.0 g outer),
      )
  type_remains mean p (Component is es) s around after stays included passed so =
      sides_remain mean p is es (λ mean p s around after stays included passed so. all_remain mean p is s around after stays included passed so)
      (λ mean p s around after stays included passed so. all_remain mean p es s around after stays included passed so) s around after stays included passed so

  pub remains : (mean : Meaning) (p : Spot) (e : EntityTree) (s : Scope) (around after : List Scope) → Stays mean p e → Includes p.known (s ∷ around)
      → behind e (s ∷ around) ≡ Some after → Extends mean.bit after → Remains mean p e
  remains mean p (IsType t) s around after stays included passed so = type_remains mean p t s around after stays included passed so
  remains mean p (IsFunc f) s around after stays included passed so = one (func_has_bit (bit_in (s ∷ around)) f) refl passed
    where
      one : (x : Bool) → func_has_bit (bit_in (s ∷ around)) f ≡ x → cond x (Some (s ∷ around)) None ≡ Some after → meaning.func_bit mean.bit f ≡ true
      one true e passed = func_so (bit_in (s ∷ around)) mean.bit (subst (Extends mean.bit) (sym (same_Some (s ∷ around) after passed)) so) f e
      one false e passed = no_scopes after passed
  remains mean p (IsInstance es) s around after stays included passed so =
      all_remain (within p mean) (first_spot Exporting p.known) es s around after stays included passed so
  remains mean p (IsComponent is es) s around after stays included passed so =
      sides_remain mean p is es (λ mean p s around after stays included passed so. all_remain mean p is s around after stays included passed so)
      (λ mean p s around after stays included passed so. all_remain mean p es s around after stays included passed so) s around after stays included passed so
  remains mean p (IsModule m) s around after stays included passed so = tt
  remains mean p IsOwnModule s around after stays included passed so = absurd stays

  pub all_remain : (mean : Meaning) (p : Spot) (es : Entries) (s : Scope) (around after : List Scope) → AllStay mean p es → Includes p.known (s ∷ around)
      → behind_all es (s ∷ around) ≡ Some after → Extends mean.bit after → AllRemain mean p es
  all_remain mean p no_entry s around after stays included passed so = tt
  all_remain mean p (entry name e mark es) s around after stays included passed so =
      let x = then_some (behind_all es) (behind e (s ∷ around)) after passed in
      let g = entity_grows e s around x.0 x.1 in
      let rest = ap (behind_all es) (sym g.is) ∙ x.2 in
      let after_it = so_before mean.bit g.top around after (all_grow es g.top around after rest) so in (
        stays.0,
        remains mean p e s around x.0 stays.1 included x.1 (subst (Extends mean.bit) (sym g.is) after_it),
        all_remain mean (readable.behind mean p name e) es g.top around after stays.2
            (subst (Includes (with_these p.known (brought_keys e))) g.is (entity_included e s around x.0 p.known included x.1)) rest so,
      )
