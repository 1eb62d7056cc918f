-- What passes has its naming bits.
use Rattle.std.proofs.Common.{◌≡◌, ℕ, Bool, true, false, cond, List, [], ◌∷◌, Option, Some, None, refl, sym, ap, subst, ◌∙◌}
use Rattle.std.specs.Prelude.{nat_lt, option_and_then}
use Rattle.std.proofs.lemmas.Option.{same_Some}
use Rattle.comp_entity.specs.Entity.{Name, ValueTree, Value, Resource, Func, Instance, Component, EntityTree, IsType, IsFunc, IsInstance, IsComponent, IsModule, IsOwnModule, Entries, no_entry, entry}
use Rattle.comp_entity.specs.Fits.{place_of}
use Rattle.compose_left.specs.declared.spots.Spot.{Spot}
use Rattle.compose_needs.specs.declared.leaves.Leaf.{Leaf}
use Rattle.compose_needs.specs.Leaves.{leaves_at}
use Rattle.compose_order.specs.Needs.{LeftTree}
use Rattle.compose_naming.specs.Bits.{HaveBits, Scope, behind, behind_all, behind_call, behind_calls, behind_left, behind_lefts, behind_place, bit_at, bit_in, called_where, closed, func_has_bit, further_out, is_set, named_at, named_in, noted, opened, own_bit, with_bit}
use Rattle.compose_naming.specs.GrownLaws.{Grown, all_grow, call_grows, calls_grow, closed_is, entity_grows, grown_on, left_grows, lefts_grow, no_scopes, no_truth, noted_there, sides_are, so_before, then_some, where_noted}
use Rattle.compose_naming.specs.NamingBits.{AllHave, AllImportsHave, CallHas, CallsHave, EntityHas, Extends, Has, HaveNamingBits, PlaceHas, all_named_behind, bits_of, inside, named_behind, named_behind_left, named_by_call, named_by_calls, nothing, with_name}
use Rattle.compose_naming.specs.Settled.{name_in, settled}
use Rattle.compose_naming.proofs.NamedLaws.{Fits, bit_known, bit_unknown, first_fits, noted_fits, opened_fits, same_bits}

-- Something has its bits, and the scopes behind it have what is named there.
record Found (P : Type 0) (named bit : Name → Bool) (after : List Scope) : Type 0 where
  has : P
  fits : Fits named bit after

-- ---- in one scope

module _ (width : ℕ) (named bit : Name → Bool) (s : Scope) (around after : List Scope) (wide : s.width ≡ width) (fits : Fits named bit (s ∷ around)) (so : Extends bit after) where
  same_fits : (more : Name → Bool) → Fits more bit (s ∷ around) → Some (s ∷ around) ≡ Some after → Fits more bit after
  same_fits more fits is = subst (Fits more bit) (same_Some (s ∷ around) after is) fits

  -- a type that is new is one of this scope
  record IsNoted (n : Name) (b : Bool) : Type 0 where
    own : nat_lt n.out width ≡ true
    bit_is : bit n ≡ b
    more : Fits (with_name named (Some n)) bit after

  noted_is : (n : Name) (b : Bool) → noted n b (s ∷ around) ≡ Some after → IsNoted n b
  noted_is n b is = one (nat_lt n.out s.width) refl is
    where
      bit_is : bit n ≡ b
      bit_is = so n b (noted_there n b s around after is)

      one : (x : Bool) → nat_lt n.out s.width ≡ x → cond x (Some (with_bit n b s ∷ around)) None ≡ Some after → IsNoted n b
      one false e h = no_scopes after h
      one true e h = record {
        own = ap (nat_lt n.out) (sym wide) ∙ e;
        bit_is = bit_is;
        more = subst (Fits (with_name named (Some n)) bit) (ap (λ b. with_bit n b s ∷ around) bit_is ∙ same_Some (with_bit n b s ∷ around) after h)
            (noted_fits named bit n s around e fits);
      }

  place_found : (t : ValueTree) (o : Option Name) → behind_place (s ∷ around) t o ≡ Some after
      → Found (PlaceHas width named bit t o) (with_name named o) bit after
  place_found t None is = record { has = tt; fits = same_fits named fits is }
  place_found t (Some n) is = one (named n) refl
    where
      one : (x : Bool) → named n ≡ x → Found (PlaceHas width named bit t (Some n)) (with_name named (Some n)) bit after
      one true e = record {
        has = λ unnamed. no_truth (sym e ∙ unnamed);
        fits = same_fits (with_name named (Some n)) (same_bits named bit n (s ∷ around) e fits)
            (ap (named_in (s ∷ around) t n) (sym (bit_known named bit n (s ∷ around) e fits)) ∙ is);
      }
      one false e =
          let x = where_noted n (own_bit (bit_in (s ∷ around)) t) (s ∷ around) after
          (ap (named_in (s ∷ around) t n) (sym (bit_unknown named bit n (s ∷ around) e fits)) ∙ is) in
          let new = noted_is n x.0 x.2 in
          record {
            has = λ unnamed. record { own = new.own; parts = ap (λ bits. own_bit bits t) (sym fits) ∙ x.1 ∙ ap Some (sym new.bit_is) };
            fits = new.more;
          }

-- ---- what is called

record IsThere (leaves : List Leaf) (scopes : List Scope) (c : Spot) (b : Bool) : Type 0 where
  place : Name
  there : named_at leaves c.path ≡ Some place
  bit : bit_in scopes place ≡ Some b

stands_there : (leaves : List Leaf) (scopes : List Scope) (c : Spot) (b : Bool) → bit_at leaves scopes c.path ≡ Some b → IsThere leaves scopes c b
stands_there leaves scopes c b h = by (named_at leaves c.path) refl h
  where
    by : (o : Option Name) → named_at leaves c.path ≡ o → option_and_then (bit_in scopes) o ≡ Some b → IsThere leaves scopes c b
    by None e h = absurd cc
    by (Some place) e h = record { place = place; there = e; bit = h }

-- only what is named has a bit
known_is : (named bit : Name → Bool) (scopes : List Scope) (n : Name) (b : Bool) → Fits named bit scopes → bit_in scopes n ≡ Some b
    → (named n ≡ true) × (bit n ≡ b)
known_is named bit scopes n b fits h = by (named n) refl
  where
    by : (x : Bool) → named n ≡ x → (named n ≡ true) × (bit n ≡ b)
    by true e = (e, same_Some (bit n) b (sym (bit_known named bit n scopes e fits) ∙ h))
    by false e = absurd (let bad : None ≡ Some b = sym (bit_unknown named bit n scopes e fits) ∙ h in cc)

call_found : (leaves : List Leaf) (c : Spot) (named bit : Name → Bool) (s : Scope) (around after : List Scope) → s.width ≡ 2 → Fits named bit (s ∷ around)
    → Extends bit after → behind_call leaves (s ∷ around) c ≡ Some after
    → Found (CallHas leaves named bit c) (named_by_call named c) bit after
call_found leaves c named bit s around after wide fits so passed = one c.what.is_type refl passed
  where
    n : Name
    n = name_in c.what

    there : Option Bool
    there = bit_at leaves (s ∷ around) c.path

    at_type : (x : Bool) → named n ≡ x → called_where (s ∷ around) n there (bit_in (s ∷ around) n) ≡ Some after
        → Found (CallHas leaves named bit c) (with_name named (Some n)) bit after
    at_type true e is = record {
      has = λ type unnamed. no_truth (sym e ∙ unnamed);
      fits = same_fits 2 named bit s around after wide fits so (with_name named (Some n)) (same_bits named bit n (s ∷ around) e fits)
          (ap (called_where (s ∷ around) n there) (sym (bit_known named bit n (s ∷ around) e fits)) ∙ is);
    }
    at_type false e is =
        let x = where_noted n there (s ∷ around) after (ap (called_where (s ∷ around) n there) (sym (bit_unknown named bit n (s ∷ around) e fits)) ∙ is) in
        let new = noted_is 2 named bit s around after wide fits so n x.0 x.2 in
        let stands = stands_there leaves (s ∷ around) c x.0 x.1 in
        let known = known_is named bit (s ∷ around) stands.place x.0 fits stands.bit in
        record {
          has = λ type unnamed. record { place = stands.place; there = stands.there; before = known.0; own = new.own; same = new.bit_is ∙ sym known.1 };
          fits = new.more;
        }

    one : (x : Bool) → c.what.is_type ≡ x → cond x (called_where (s ∷ around) n there (bit_in (s ∷ around) n)) (Some (s ∷ around)) ≡ Some after
        → Found (CallHas leaves named bit c) (cond x (with_name named (Some n)) named) bit after
    one true e is = at_type (named n) refl is
    one false e is = record { has = λ type. no_truth (sym type ∙ e); fits = same_fits 2 named bit s around after wide fits so named fits is }

-- ---- an entity

-- the bits of the types of a scope that was closed
abbrev bit_of : Scope → Name → Bool
bit_of top n = is_set (top.bits n)

inner_so : (width : ℕ) (bit : Name → Bool) (s : Scope) (around inner : List Scope) (g : Grown (opened width) (s ∷ around) inner) → Extends bit (s ∷ around)
    → Extends (inside width (bit_of g.top) bit) inner
inner_so width bit s around inner g h n b e =
    one (nat_lt n.out width) refl ((λ i. cond (nat_lt n.out (sym g.width i)) (g.top.bits n) (bit_in (s ∷ around) (further_out (sym g.width i) n))) ∙ ap (λ scopes. bit_in scopes n) (sym g.is) ∙ e)
  where
    one : (x : Bool) → nat_lt n.out width ≡ x → cond x (g.top.bits n) (bit_in (s ∷ around) (further_out width n)) ≡ Some b
        → cond (nat_lt n.out width) (bit_of g.top n) (bit (further_out width n)) ≡ b
    one true lt e = (λ i. cond (lt i) (bit_of g.top n) (bit (further_out width n))) ∙ ap is_set e
    one false ge e = (λ i. cond (ge i) (bit_of g.top n) (bit (further_out width n))) ∙ h (further_out width n) b e

abbrev AllFound : Entries → Type 0
AllFound es = (width : ℕ) (named bit : Name → Bool) (s : Scope) (around after : List Scope) → s.width ≡ width → Fits named bit (s ∷ around)
    → Extends bit after → behind_all es (s ∷ around) ≡ Some after → Found (AllHave width named bit es) (all_named_behind named es) bit after

-- in a scope of its own
record InInstance (es : Entries) (named bit : Name → Bool) : Type 0 where
  own : Name → Bool
  all : AllHave 1 (inside 1 nothing named) (inside 1 own bit) es

record InComponent (is es : Entries) (named bit : Name → Bool) : Type 0 where
  own : Name → Bool
  imports : AllHave 2 (inside 2 nothing named) (inside 2 own bit) is
  exports : AllHave 2 (all_named_behind (inside 2 nothing named) is) (inside 2 own bit) es

so_outside : (bit : Name → Bool) (s : Scope) (around after : List Scope) → Extends bit after → Some (s ∷ around) ≡ Some after → Extends bit (s ∷ around)
so_outside bit s around after so is = subst (Extends bit) (sym (same_Some (s ∷ around) after is)) so

instance_found : (es : Entries) → AllFound es → (named bit : Name → Bool) (s : Scope) (around after : List Scope) → Fits named bit (s ∷ around)
    → Extends bit (s ∷ around) → (inner : List Scope) → behind_all es (opened 1 ∷ s ∷ around) ≡ Some inner → InInstance es named bit
instance_found es all named bit s around after fits so inner passed =
    let g = all_grow es (opened 1) (s ∷ around) inner passed in
    record {
      own = bit_of g.top;
      all = (all 1 (inside 1 nothing named) (inside 1 (bit_of g.top) bit) (opened 1) (s ∷ around) inner refl
          (opened_fits 1 named bit (bit_of g.top) (s ∷ around) fits) (inner_so 1 bit s around inner g so) passed).has;
    }

component_found : (is es : Entries) → AllFound is → AllFound es → (named bit : Name → Bool) (s : Scope) (around : List Scope) → Fits named bit (s ∷ around)
    → Extends bit (s ∷ around) → (inner : List Scope) → option_and_then (behind_all es) (behind_all is (opened 2 ∷ s ∷ around)) ≡ Some inner
    → InComponent is es named bit
component_found is es imports exports named bit s around fits so inner passed =
    let y = then_some (behind_all es) (behind_all is (opened 2 ∷ s ∷ around)) inner passed in
    let g = all_grow is (opened 2) (s ∷ around) y.0 y.1 in
    let behind_them = ap (behind_all es) (sym g.is) ∙ y.2 in
    let k = all_grow es g.top (s ∷ around) inner behind_them in
    let whole = grown_on (opened 2) (s ∷ around) y.0 inner g k in
    let so_inner = inner_so 2 bit s around inner whole so in
    let inner_bit = inside 2 (bit_of whole.top) bit in
    let between = subst (Extends inner_bit) (sym g.is) (so_before inner_bit g.top (s ∷ around) inner k so_inner) in
    let first = imports 2 (inside 2 nothing named) inner_bit (opened 2) (s ∷ around) y.0 refl (opened_fits 2 named bit (bit_of whole.top) (s ∷ around) fits) between y.1 in
    let second = exports 2 (all_named_behind (inside 2 nothing named) is) inner_bit g.top (s ∷ around) inner g.width (subst (Fits (all_named_behind (inside 2 nothing named) is) inner_bit) g.is first.fits) so_inner behind_them in
    record { own = bit_of whole.top; imports = first.has; exports = second.has }

mutual
  entity_found : (e : EntityTree) (width : ℕ) (named bit : Name → Bool) (s : Scope) (around after : List Scope) → s.width ≡ width → Fits named bit (s ∷ around)
      → Extends bit after → behind e (s ∷ around) ≡ Some after → Found (Has width named bit e) (named_behind named e) bit after
  entity_found (IsType (Value t)) width named bit s around after wide fits so is = place_found width named bit s around after wide fits so t (place_of t) is
  entity_found (IsType (Resource r)) width named bit s around after wide fits so is = record { has = tt; fits = same_fits width named bit s around after wide fits so named fits is }
  entity_found (IsType (Func f)) width named bit s around after wide fits so is = record { has = tt; fits = same_fits width named bit s around after wide fits so named fits is }
  entity_found (IsType (Instance es)) width named bit s around after wide fits so passed =
      let x = then_some closed (behind_all es (opened 1 ∷ s ∷ around)) after passed in
      let outer = closed_is 1 s around x.0 after (all_grow es (opened 1) (s ∷ around) x.0 x.1) x.2 in
      let inner = instance_found es (λ width named bit s around after wide fits so is. all_found es width named bit s around after wide fits so is)
      named bit s around after fits (so_outside bit s around after so outer) x.0 x.1 in
      record { has = (inner.own, inner.all); fits = same_fits width named bit s around after wide fits so named fits outer }
  entity_found (IsType (Component is es)) width named bit s around after wide fits so passed =
      let x = then_some closed (option_and_then (behind_all es) (behind_all is (opened 2 ∷ s ∷ around))) after passed in
      let outer = sides_are is es s around after passed in
      let inner = component_found is es (λ width named bit s around after wide fits so is'. all_found is width named bit s around after wide fits so is')
      (λ width named bit s around after wide fits so is'. all_found es width named bit s around after wide fits so is')
      named bit s around fits (so_outside bit s around after so outer) x.0 x.1 in
      record { has = (inner.own, inner.imports, inner.exports); fits = same_fits width named bit s around after wide fits so named fits outer }
  entity_found (IsFunc f) width named bit s around after wide fits so is = one (func_has_bit (bit_in (s ∷ around)) f) refl is
    where
      one : (x : Bool) → func_has_bit (bit_in (s ∷ around)) f ≡ x → cond x (Some (s ∷ around)) None ≡ Some after → Found (func_has_bit (bits_of named bit) f ≡ true) named bit after
      one true e is = record { has = ap (λ bits. func_has_bit bits f) (sym fits) ∙ e; fits = same_fits width named bit s around after wide fits so named fits is }
      one false e is = no_scopes after is
  entity_found (IsInstance es) width named bit s around after wide fits so is = all_found es width named bit s around after wide fits so is
  entity_found (IsComponent is es) width named bit s around after wide fits so passed =
      let x = then_some closed (option_and_then (behind_all es) (behind_all is (opened 2 ∷ s ∷ around))) after passed in
      let outer = sides_are is es s around after passed in
      let inner = component_found is es (λ width named bit s around after wide fits so is'. all_found is width named bit s around after wide fits so is')
      (λ width named bit s around after wide fits so is'. all_found es width named bit s around after wide fits so is')
      named bit s around fits (so_outside bit s around after so outer) x.0 x.1 in
      record { has = (inner.own, inner.imports, inner.exports); fits = same_fits width named bit s around after wide fits so named fits outer }
  entity_found (IsModule m) width named bit s around after wide fits so is = record { has = tt; fits = same_fits width named bit s around after wide fits so named fits is }
  entity_found IsOwnModule width named bit s around after wide fits so is = record { has = tt; fits = same_fits width named bit s around after wide fits so named fits is }

  all_found : (es : Entries) (width : ℕ) (named bit : Name → Bool) (s : Scope) (around after : List Scope) → s.width ≡ width → Fits named bit (s ∷ around)
      → Extends bit after → behind_all es (s ∷ around) ≡ Some after → Found (AllHave width named bit es) (all_named_behind named es) bit after
  all_found no_entry width named bit s around after wide fits so is = record { has = tt; fits = same_fits width named bit s around after wide fits so named fits is }
  all_found (entry name e mark es) width named bit s around after wide fits so is =
      let x = then_some (behind_all es) (behind e (s ∷ around)) after is in
      let g = entity_grows e s around x.0 x.1 in
      let rest = ap (behind_all es) (sym g.is) ∙ x.2 in
      let between = subst (Extends bit) (sym g.is) (so_before bit g.top around after (all_grow es g.top around after rest) so) in
      let first = entity_found e width named bit s around x.0 wide fits between x.1 in
      let second = all_found es width (named_behind named e) bit g.top around after (g.width ∙ wide) (subst (Fits (named_behind named e) bit) g.is first.fits) so rest in
      record { has = (first.has, second.has); fits = second.fits }

-- ---- left imports

calls_found : (leaves : List Leaf) (calls : List Spot) (named bit : Name → Bool) (s : Scope) (around after : List Scope) → s.width ≡ 2 → Fits named bit (s ∷ around)
    → Extends bit after → behind_calls leaves calls (s ∷ around) ≡ Some after → Found (CallsHave leaves named bit calls) (named_by_calls named calls) bit after
calls_found leaves [] named bit s around after wide fits so is = record { has = tt; fits = same_fits 2 named bit s around after wide fits so named fits is }
calls_found leaves (c ∷ calls) named bit s around after wide fits so is =
    let x = then_some (behind_calls leaves calls) (behind_call leaves (s ∷ around) c) after is in
    let g = call_grows leaves s around x.0 c x.1 in
    let rest = ap (behind_calls leaves calls) (sym g.is) ∙ x.2 in
    let between = subst (Extends bit) (sym g.is) (so_before bit g.top around after (calls_grow leaves calls g.top around after rest) so) in
    let first = call_found leaves c named bit s around x.0 wide fits between x.1 in
    let second = calls_found leaves calls (named_by_call named c) bit g.top around after (g.width ∙ wide) (subst (Fits (named_by_call named c) bit) g.is first.fits) so rest in
    record { has = (first.has, second.has); fits = second.fits }

left_found : (l : LeftTree) (named bit : Name → Bool) (s : Scope) (around after : List Scope) → s.width ≡ 2 → Fits named bit (s ∷ around)
    → Extends bit after → behind_left l (s ∷ around) ≡ Some after → Found (EntityHas named bit (settled l).entity l.calls) (named_behind_left named l) bit after
left_found l named bit s around after wide fits so is =
    let e = (settled l).entity in
    let x = then_some (behind_calls (leaves_at e) l.calls) (behind e (s ∷ around)) after is in
    let g = entity_grows e s around x.0 x.1 in
    let rest = ap (behind_calls (leaves_at e) l.calls) (sym g.is) ∙ x.2 in
    let between = subst (Extends bit) (sym g.is) (so_before bit g.top around after (calls_grow (leaves_at e) l.calls g.top around after rest) so) in
    let first = entity_found e 2 named bit s around x.0 wide fits between x.1 in
    let second = calls_found (leaves_at e) l.calls (named_behind named e) bit g.top around after (g.width ∙ wide) (subst (Fits (named_behind named e) bit) g.is first.fits) so rest in
    record { has = (first.has, second.has); fits = second.fits }

lefts_found : (ls : List LeftTree) (named bit : Name → Bool) (s : Scope) (around after : List Scope) → s.width ≡ 2 → Fits named bit (s ∷ around)
    → Extends bit after → behind_lefts ls (s ∷ around) ≡ Some after → AllImportsHave named bit ls
lefts_found [] named bit s around after wide fits so is = tt
lefts_found (l ∷ ls) named bit s around after wide fits so is =
    let x = then_some (behind_lefts ls) (behind_left l (s ∷ around)) after is in
    let g = left_grows l s around x.0 x.1 in
    let rest = ap (behind_lefts ls) (sym g.is) ∙ x.2 in
    let between = subst (Extends bit) (sym g.is) (so_before bit g.top around after (lefts_grow ls g.top around after rest) so) in
    let first = left_found l named bit s around x.0 wide fits between x.1 in
    (first.has, lefts_found ls (named_behind_left named l) bit g.top around after (g.width ∙ wide) (subst (Fits (named_behind_left named l) bit) g.is first.fits) so rest)

-- the bits that were found are so
abbrev found : List Scope → Name → Bool
found scopes n = is_set (bit_in scopes n)

found_so : (scopes : List Scope) → Extends (found scopes) scopes
found_so scopes n b e = ap is_set e

pub bits_are_had : (ls : List LeftTree) → HaveBits ls → HaveNamingBits ls
bits_are_had ls h = record {
  bit = found h.scopes;
  have = lefts_found ls nothing (found h.scopes) (opened 2) [] h.scopes refl (first_fits (found h.scopes)) (found_so h.scopes) h.are;
}
