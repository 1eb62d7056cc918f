-- What has its naming bits passes.
use Rattle.std.proofs.Common.{◌≡◌, ℕ, Bool, true, false, cond, List, [], ◌∷◌, Option, Some, None, refl, sym, ap, ◌∙◌}
use Rattle.std.specs.Prelude.{nat_lt, option_and_then}
use Rattle.comp_entity.specs.Entity.{Name, ValueTree, Value, Resource, Func, Instance, Component, EntityTree, IsType, IsFunc, IsInstance, IsComponent, IsModule, IsOwnModule, Entries, no_entry, entry}
use Rattle.comp_entity.specs.Fits.{place_of}
use Rattle.compose_left.specs.declared.spots.Spot.{Spot}
use Rattle.compose_needs.specs.declared.leaves.Leaf.{Leaf}
use Rattle.compose_needs.specs.Leaves.{leaves_at}
use Rattle.compose_order.specs.Needs.{LeftTree}
use Rattle.compose_naming.specs.Bits.{HaveBits, Scope, behind, behind_all, behind_call, behind_calls, behind_left, behind_lefts, behind_place, bit_at, bit_in, called_where, closed, func_has_bit, named_in, noted, noted_where, opened, own_bit, with_bit}
use Rattle.compose_naming.specs.NamingBits.{AllHave, AllImportsHave, CallHas, CallsHave, EntityHas, Has, HaveNamingBits, PlaceHas, all_named_behind, inside, named_behind, named_behind_left, named_by_call, named_by_calls, nothing, with_name}
use Rattle.compose_naming.specs.Settled.{name_in, settled}
use Rattle.compose_naming.proofs.NamedLaws.{Fits, bit_known, bit_unknown, first_fits, noted_fits, opened_fits, same_bits}

-- There are scopes behind something, the innermost of the same width, which have what is named behind it.
pub record Passes (passed : Option (List Scope)) (width : ℕ) (named bit : Name → Bool) (around : List Scope) : Type 0 where
  pub top : Scope
  pub is : passed ≡ Some (top ∷ around)
  pub wide : top.width ≡ width
  pub fits : Fits named bit (top ∷ around)

-- ---- in one scope

module _ (width : ℕ) (named bit : Name → Bool) (s : Scope) (around : List Scope) (wide : s.width ≡ width) (fits : Fits named bit (s ∷ around)) where
  stays : Passes (Some (s ∷ around)) width named bit around
  stays = record { top = s; is = refl; wide = wide; fits = fits }

  -- a type that was named before
  named_before : (n : Name) (passed : Option (List Scope)) → named n ≡ true → passed ≡ Some (s ∷ around)
      → Passes passed width (with_name named (Some n)) bit around
  named_before n passed is e = record { top = s; is = e; wide = wide; fits = same_bits named bit n (s ∷ around) is fits }

  -- a type that is named first
  named_first : (n : Name) (passed : Option (List Scope)) → nat_lt n.out width ≡ true → passed ≡ noted n (bit n) (s ∷ around)
      → Passes passed width (with_name named (Some n)) bit around
  named_first n passed own e =
      let here : nat_lt n.out s.width ≡ true = ap (nat_lt n.out) wide ∙ own in
      record {
        top = with_bit n (bit n) s;
        is = e ∙ (λ i. cond (here i) (Some (with_bit n (bit n) s ∷ around)) None);
        wide = wide;
        fits = noted_fits named bit n s around here fits;
      }

  place_passes : (t : ValueTree) (o : Option Name) → PlaceHas width named bit t o
      → Passes (behind_place (s ∷ around) t o) width (with_name named o) bit around
  place_passes t None has = stays
  place_passes t (Some n) has = one (named n) refl
    where
      one : (x : Bool) → named n ≡ x → Passes (named_in (s ∷ around) t n (bit_in (s ∷ around) n)) width (with_name named (Some n)) bit around
      one true e =
          named_before n (named_in (s ∷ around) t n (bit_in (s ∷ around) n)) e
          (ap (named_in (s ∷ around) t n) (bit_known named bit n (s ∷ around) e fits))
      one false e =
          let first = has e in
          named_first n (named_in (s ∷ around) t n (bit_in (s ∷ around) n)) first.own
          (ap (named_in (s ∷ around) t n) (bit_unknown named bit n (s ∷ around) e fits)
          ∙ ap (noted_where n (s ∷ around)) (ap (λ bits. own_bit bits t) fits ∙ first.parts))

  call_passes : (leaves : List Leaf) (c : Spot) → CallHas leaves named bit c → width ≡ 2
      → Passes (behind_call leaves (s ∷ around) c) width (named_by_call named c) bit around
  call_passes leaves c has outer = one c.what.is_type refl
    where
      n : Name
      n = name_in c.what

      there : Option Bool
      there = bit_at leaves (s ∷ around) c.path

      at_type : c.what.is_type ≡ true → (x : Bool) → named n ≡ x
          → Passes (called_where (s ∷ around) n there (bit_in (s ∷ around) n)) width (with_name named (Some n)) bit around
      at_type is true e =
          named_before n (called_where (s ∷ around) n there (bit_in (s ∷ around) n)) e
          (ap (called_where (s ∷ around) n there) (bit_known named bit n (s ∷ around) e fits))
      at_type is false e =
          let first = has is e in
          named_first n (called_where (s ∷ around) n there (bit_in (s ∷ around) n)) (ap (nat_lt n.out) outer ∙ first.own)
          (ap (called_where (s ∷ around) n there) (bit_unknown named bit n (s ∷ around) e fits)
          ∙ ap (noted_where n (s ∷ around)) (ap (option_and_then (bit_in (s ∷ around))) first.there
          ∙ bit_known named bit first.place (s ∷ around) first.before fits ∙ ap Some (sym first.same)))

      one : (x : Bool) → c.what.is_type ≡ x
          → Passes (cond x (called_where (s ∷ around) n there (bit_in (s ∷ around) n)) (Some (s ∷ around))) width
          (cond x (with_name named (Some n)) named) bit around
      one true e = at_type e (named n) refl
      one false e = stays

-- ---- an entity

abbrev AllPass : Entries → Type 0
AllPass es = (width : ℕ) (named bit : Name → Bool) (s : Scope) (around : List Scope) → s.width ≡ width → Fits named bit (s ∷ around)
    → AllHave width named bit es → Passes (behind_all es (s ∷ around)) width (all_named_behind named es) bit around

instance_passes : (es : Entries) → AllPass es → (named bit own : Name → Bool) (s : Scope) (around : List Scope) → Fits named bit (s ∷ around)
    → AllHave 1 (inside 1 nothing named) (inside 1 own bit) es
    → option_and_then closed (behind_all es (opened 1 ∷ s ∷ around)) ≡ Some (s ∷ around)
instance_passes es pass named bit own s around fits has =
    let inner = pass 1 (inside 1 nothing named) (inside 1 own bit) (opened 1) (s ∷ around) refl (opened_fits 1 named bit own (s ∷ around) fits) has in
    ap (option_and_then closed) inner.is

sides_pass : (is es : Entries) → AllPass is → AllPass es → (named bit own : Name → Bool) (s : Scope) (around : List Scope) → Fits named bit (s ∷ around)
    → AllHave 2 (inside 2 nothing named) (inside 2 own bit) is
    → AllHave 2 (all_named_behind (inside 2 nothing named) is) (inside 2 own bit) es
    → option_and_then closed (option_and_then (behind_all es) (behind_all is (opened 2 ∷ s ∷ around))) ≡ Some (s ∷ around)
sides_pass is es imports exports named bit own s around fits has behind_them =
    let first = imports 2 (inside 2 nothing named) (inside 2 own bit) (opened 2) (s ∷ around) refl (opened_fits 2 named bit own (s ∷ around) fits) has in
    let second = exports 2 (all_named_behind (inside 2 nothing named) is) (inside 2 own bit) first.top (s ∷ around) first.wide first.fits behind_them in
    ap (option_and_then closed) (ap (option_and_then (behind_all es)) first.is ∙ second.is)

mutual
  entity_passes : (e : EntityTree) (width : ℕ) (named bit : Name → Bool) (s : Scope) (around : List Scope) → s.width ≡ width → Fits named bit (s ∷ around)
      → Has width named bit e → Passes (behind e (s ∷ around)) width (named_behind named e) bit around
  entity_passes (IsType (Value t)) width named bit s around wide fits has = place_passes width named bit s around wide fits t (place_of t) has
  entity_passes (IsType (Resource r)) width named bit s around wide fits has = stays width named bit s around wide fits
  entity_passes (IsType (Func f)) width named bit s around wide fits has = stays width named bit s around wide fits
  entity_passes (IsType (Instance es)) width named bit s around wide fits has = record {
    top = s;
    is = instance_passes es (λ width named bit s around wide fits has. all_pass es width named bit s around wide fits has) named bit has.0 s around fits has.1;
    wide = wide;
    fits = fits;
  }
  entity_passes (IsType (Component is es)) width named bit s around wide fits has = record {
    top = s;
    is = sides_pass is es (λ width named bit s around wide fits has. all_pass is width named bit s around wide fits has)
        (λ width named bit s around wide fits has. all_pass es width named bit s around wide fits has) named bit has.0 s around fits has.1 has.2;
    wide = wide;
    fits = fits;
  }
  entity_passes (IsFunc f) width named bit s around wide fits has = record {
    top = s;
    is = let bits : func_has_bit (bit_in (s ∷ around)) f ≡ true = ap (λ bits. func_has_bit bits f) fits ∙ has in λ i. cond (bits i) (Some (s ∷ around)) None;
    wide = wide;
    fits = fits;
  }
  entity_passes (IsInstance es) width named bit s around wide fits has = all_pass es width named bit s around wide fits has
  entity_passes (IsComponent is es) width named bit s around wide fits has = record {
    top = s;
    is = sides_pass is es (λ width named bit s around wide fits has. all_pass is width named bit s around wide fits has)
        (λ width named bit s around wide fits has. all_pass es width named bit s around wide fits has) named bit has.0 s around fits has.1 has.2;
    wide = wide;
    fits = fits;
  }
  entity_passes (IsModule m) width named bit s around wide fits has = stays width named bit s around wide fits
  entity_passes IsOwnModule width named bit s around wide fits has = stays width named bit s around wide fits

  all_pass : (es : Entries) (width : ℕ) (named bit : Name → Bool) (s : Scope) (around : List Scope) → s.width ≡ width → Fits named bit (s ∷ around)
      → AllHave width named bit es → Passes (behind_all es (s ∷ around)) width (all_named_behind named es) bit around
  all_pass no_entry width named bit s around wide fits has = stays width named bit s around wide fits
  all_pass (entry name e mark es) width named bit s around wide fits has =
      let x = entity_passes e width named bit s around wide fits has.0 in
      let y = all_pass es width (named_behind named e) bit x.top around x.wide x.fits has.1 in
      record { top = y.top; is = ap (option_and_then (behind_all es)) x.is ∙ y.is; wide = y.wide; fits = y.fits }

-- ---- left imports

calls_pass : (leaves : List Leaf) (calls : List Spot) (named bit : Name → Bool) (s : Scope) (around : List Scope) → s.width ≡ 2 → Fits named bit (s ∷ around)
    → CallsHave leaves named bit calls → Passes (behind_calls leaves calls (s ∷ around)) 2 (named_by_calls named calls) bit around
calls_pass leaves [] named bit s around wide fits has = stays 2 named bit s around wide fits
calls_pass leaves (c ∷ calls) named bit s around wide fits has =
    let x = call_passes 2 named bit s around wide fits leaves c has.0 refl in
    let y = calls_pass leaves calls (named_by_call named c) bit x.top around x.wide x.fits has.1 in
    record { top = y.top; is = ap (option_and_then (behind_calls leaves calls)) x.is ∙ y.is; wide = y.wide; fits = y.fits }

left_passes : (l : LeftTree) (named bit : Name → Bool) (s : Scope) (around : List Scope) → s.width ≡ 2 → Fits named bit (s ∷ around)
    → EntityHas named bit (settled l).entity l.calls → Passes (behind_left l (s ∷ around)) 2 (named_behind_left named l) bit around
left_passes l named bit s around wide fits has =
    let e = (settled l).entity in
    let x = entity_passes e 2 named bit s around wide fits has.0 in
    let y = calls_pass (leaves_at e) l.calls (named_behind named e) bit x.top around x.wide x.fits has.1 in
    record { top = y.top; is = ap (option_and_then (behind_calls (leaves_at e) l.calls)) x.is ∙ y.is; wide = y.wide; fits = y.fits }

lefts_pass : (ls : List LeftTree) (named bit : Name → Bool) (s : Scope) (around : List Scope) → s.width ≡ 2 → Fits named bit (s ∷ around)
    → AllImportsHave named bit ls → (scopes : List Scope) × (behind_lefts ls (s ∷ around) ≡ Some scopes)
lefts_pass [] named bit s around wide fits has = (s ∷ around, refl)
lefts_pass (l ∷ ls) named bit s around wide fits has =
    let x = left_passes l named bit s around wide fits has.0 in
    let y = lefts_pass ls (named_behind_left named l) bit x.top around x.wide x.fits has.1 in
    (y.0, ap (option_and_then (behind_lefts ls)) x.is ∙ y.1)

pub bits_are_found : (ls : List LeftTree) → HaveNamingBits ls → HaveBits ls
bits_are_found ls h =
    let passed = lefts_pass ls nothing h.bit (opened 2) [] refl (first_fits h.bit) h.have in
    record { scopes = passed.0; are = passed.1 }
