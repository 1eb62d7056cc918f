-- What is behind an entity: the same scopes, in the innermost of which more is named, and with bits that are so behind
-- it as they were before it.
use Rattle.std.proofs.Common.{◌≡◌, ℕ, Bool, true, false, cond, List, [], ◌∷◌, Option, Some, None, refl, sym, ap, ◌∙◌}
use Rattle.std.specs.Prelude.{◌&&◌, ◌==◌, nat_lt, option_and_then}
use Rattle.std.specs.Cmp.{nat_eq_equiv}
use Rattle.std.proofs.lemmas.Bool.{and_parts, eqb-true}
use Rattle.std.proofs.lemmas.Option.{same_Some}
use Rattle.comp_entity.specs.Entity.{Name, ValueTree, TypeShapeTree, Value, Resource, Func, Instance, Component, EntityTree, IsType, IsFunc, IsInstance, IsComponent, IsModule, IsOwnModule, Entries, no_entry, entry}
use Rattle.comp_entity.specs.Fits.{place_of, same_name}
use Rattle.compose_left.specs.declared.spots.Spot.{Spot as Call}
use Rattle.compose_needs.specs.declared.leaves.Leaf.{Leaf}
use Rattle.compose_needs.specs.Leaves.{leaves_at}
use Rattle.compose_order.specs.Needs.{LeftTree}
use Rattle.compose_naming.specs.Bits.{Scope, behind, behind_all, behind_call, behind_calls, behind_left, behind_lefts, behind_place, behind_type, bit_at, bit_in, called_where, closed, func_has_bit, further_out, named_in, noted, noted_where, opened, own_bit, with_bit}
use Rattle.compose_naming.specs.NamingBits.{Extends}
use Rattle.compose_naming.specs.Settled.{name_in, settled}

pub no_truth : {A : Type 0} → true ≡ false → A
no_truth e = absurd cc

pub no_scopes : {A : Type 0} (s : List Scope) → None ≡ Some s → A
no_scopes s e = absurd cc

pub then_some : {X Y : Type 0} (f : X → Option Y) (o : Option X) (y : Y) → option_and_then f o ≡ Some y → (x : X) × (o ≡ Some x) × (f x ≡ Some y)
then_some f None y h = absurd cc
then_some f (Some x) y h = (x, refl, h)

pub name_is : (a b : Name) → same_name a b ≡ true → a ≡ b
name_is a b h =
    let parts = and_parts (a.out == b.out) (a.number == b.number) h in
    let out = eqb-true a.out b.out parts.0 in
    let number = eqb-true a.number b.number parts.1 in
    λ i. record { out = out i; number = number i }

-- the innermost scope has the same width, and keeps what was named in it
pub record Grown (s : Scope) (around after : List Scope) : Type 0 where
  pub top : Scope
  pub is : after ≡ top ∷ around
  pub width : top.width ≡ s.width
  pub keeps : (n : Name) (b : Bool) → s.bits n ≡ Some b → top.bits n ≡ Some b

pub same : (s : Scope) (around after : List Scope) → Some (s ∷ around) ≡ Some after → Grown s around after
same s around after h = record { top = s; is = sym (same_Some (s ∷ around) after h); width = refl; keeps = λ n b e. e }

pub grown_on : (s : Scope) (around mid after : List Scope) (g : Grown s around mid) → Grown g.top around after → Grown s around after
grown_on s around mid after g h = record { top = h.top; is = h.is; width = h.width ∙ g.width; keeps = λ n b e. h.keeps n b (g.keeps n b e) }

-- what was named is named as before
pub grows : (s : Scope) (around after : List Scope) → Grown s around after → (n : Name) (b : Bool) → bit_in (s ∷ around) n ≡ Some b → bit_in after n ≡ Some b
grows s around after g n b h =
    ap (λ scopes. bit_in scopes n) g.is ∙ (λ i. cond (nat_lt n.out (g.width i)) (g.top.bits n) (bit_in around (further_out (g.width i) n)))
    ∙ one (nat_lt n.out s.width) h
  where
    one : (x : Bool) → cond x (s.bits n) (bit_in around (further_out s.width n)) ≡ Some b → cond x (g.top.bits n) (bit_in around (further_out s.width n)) ≡ Some b
    one true e = g.keeps n b e
    one false e = e

noted_grows : (n : Name) (b : Bool) (s : Scope) (around after : List Scope) → bit_in (s ∷ around) n ≡ None → noted n b (s ∷ around) ≡ Some after → Grown s around after
noted_grows n b s around after unknown = one (nat_lt n.out s.width) unknown
  where
    kept : s.bits n ≡ None → (m : Name) (c : Bool) → s.bits m ≡ Some c → (x : Bool) → same_name n m ≡ x → cond x (Some b) (s.bits m) ≡ Some c
    kept none m c e false apart = e
    kept none m c e true is = absurd (let same = name_is n m is in let bad : None ≡ Some c = sym none ∙ ap s.bits same ∙ e in cc)

    one : (x : Bool) → cond x (s.bits n) (bit_in around (further_out s.width n)) ≡ None → cond x (Some (with_bit n b s ∷ around)) None ≡ Some after → Grown s around after
    one false none h = no_scopes after h
    one true none h = record {
      top = with_bit n b s;
      is = sym (same_Some (with_bit n b s ∷ around) after h);
      width = refl;
      keeps = λ m c e. kept none m c e (same_name n m) refl;
    }

pub where_grows : (n : Name) (o : Option Bool) (s : Scope) (around after : List Scope) → bit_in (s ∷ around) n ≡ None → noted_where n (s ∷ around) o ≡ Some after → Grown s around after
where_grows n None s around after unknown h = no_scopes after h
where_grows n (Some b) s around after unknown h = noted_grows n b s around after unknown h

place_grows : (t : ValueTree) (o : Option Name) (s : Scope) (around after : List Scope) → behind_place (s ∷ around) t o ≡ Some after → Grown s around after
place_grows t None s around after h = same s around after h
place_grows t (Some n) s around after h = one (bit_in (s ∷ around) n) refl h
  where
    one : (o : Option Bool) → bit_in (s ∷ around) n ≡ o → named_in (s ∷ around) t n o ≡ Some after → Grown s around after
    one (Some b) e h = same s around after h
    one None e h = where_grows n (own_bit (bit_in (s ∷ around)) t) s around after e h

-- a scope that was opened and closed again
closed_grows : (width : ℕ) (s : Scope) (around inner after : List Scope) → Grown (opened width) (s ∷ around) inner → closed inner ≡ Some after → Grown s around after
closed_grows width s around inner after g h = same s around after (sym (ap closed g.is) ∙ h)

abbrev AllGrow : Entries → Type 0
AllGrow es = (s : Scope) (around after : List Scope) → behind_all es (s ∷ around) ≡ Some after → Grown s around after

-- the imports and the exports of a component stand in a scope of their own
sides_grow : (is es : Entries) → AllGrow is → AllGrow es → (s : Scope) (around after : List Scope)
    → option_and_then closed (option_and_then (behind_all es) (behind_all is (opened 2 ∷ s ∷ around))) ≡ Some after → Grown s around after
sides_grow is es imports exports s around after h =
    let x = then_some closed (option_and_then (behind_all es) (behind_all is (opened 2 ∷ s ∷ around))) after h in
    let y = then_some (behind_all es) (behind_all is (opened 2 ∷ s ∷ around)) x.0 x.1 in
    let g = imports (opened 2) (s ∷ around) y.0 y.1 in
    closed_grows 2 s around x.0 after
    (grown_on (opened 2) (s ∷ around) y.0 x.0 g (exports g.top (s ∷ around) x.0 (ap (behind_all es) (sym g.is) ∙ y.2))) x.2

mutual
  type_grows : (t : TypeShapeTree) (s : Scope) (around after : List Scope) → behind_type t (s ∷ around) ≡ Some after → Grown s around after
  type_grows (Value t) s around after h = place_grows t (place_of t) s around after h
  type_grows (Resource r) s around after h = same s around after h
  type_grows (Func f) s around after h = same s around after h
  type_grows (Instance es) s around after h =
      let x = then_some closed (behind_all es (opened 1 ∷ s ∷ around)) after h in
      closed_grows 1 s around x.0 after (all_grow es (opened 1) (s ∷ around) x.0 x.1) x.2
  type_grows (Component is es) s around after h = sides_grow is es (λ s around after h. all_grow is s around after h) (λ s around after h. all_grow es s around after h) s around after h

  pub entity_grows : (e : EntityTree) (s : Scope) (around after : List Scope) → behind e (s ∷ around) ≡ Some after → Grown s around after
  entity_grows (IsType t) s around after h = type_grows t s around after h
  entity_grows (IsFunc f) s around after h = one (func_has_bit (bit_in (s ∷ around)) f) h
    where
      one : (x : Bool) → cond x (Some (s ∷ around)) None ≡ Some after → Grown s around after
      one true h = same s around after h
      one false h = no_scopes after h
  entity_grows (IsInstance es) s around after h = all_grow es s around after h
  entity_grows (IsComponent is es) s around after h = sides_grow is es (λ s around after h. all_grow is s around after h) (λ s around after h. all_grow es s around after h) s around after h
  entity_grows (IsModule m) s around after h = same s around after h
  entity_grows IsOwnModule s around after h = same s around after h

  pub all_grow : (es : Entries) (s : Scope) (around after : List Scope) → behind_all es (s ∷ around) ≡ Some after → Grown s around after
  all_grow no_entry s around after h = same s around after h
  all_grow (entry name e mark es) s around after h =
      let x = then_some (behind_all es) (behind e (s ∷ around)) after h in
      let g = entity_grows e s around x.0 x.1 in
      grown_on s around x.0 after g (all_grow es g.top around after (ap (behind_all es) (sym g.is) ∙ x.2))

-- ---- behind what is called, and behind left imports

pub call_grows : (leaves : List Leaf) (s : Scope) (around after : List Scope) (call : Call) → behind_call leaves (s ∷ around) call ≡ Some after → Grown s around after
call_grows leaves s around after call = one call.what.is_type
  where
    by : (o : Option Bool) → bit_in (s ∷ around) (name_in call.what) ≡ o → called_where (s ∷ around) (name_in call.what) (bit_at leaves (s ∷ around) call.path) o ≡ Some after → Grown s around after
    by (Some b) e h = same s around after h
    by None e h = where_grows (name_in call.what) (bit_at leaves (s ∷ around) call.path) s around after e h

    one : (x : Bool) → cond x (called_where (s ∷ around) (name_in call.what) (bit_at leaves (s ∷ around) call.path) (bit_in (s ∷ around) (name_in call.what))) (Some (s ∷ around)) ≡ Some after → Grown s around after
    one true h = by (bit_in (s ∷ around) (name_in call.what)) refl h
    one false h = same s around after h

pub calls_grow : (leaves : List Leaf) (calls : List Call) (s : Scope) (around after : List Scope) → behind_calls leaves calls (s ∷ around) ≡ Some after → Grown s around after
calls_grow leaves [] s around after h = same s around after h
calls_grow leaves (c ∷ calls) s around after h =
    let x = then_some (behind_calls leaves calls) (behind_call leaves (s ∷ around) c) after h in
    let g = call_grows leaves s around x.0 c x.1 in
    grown_on s around x.0 after g (calls_grow leaves calls g.top around after (ap (behind_calls leaves calls) (sym g.is) ∙ x.2))

pub left_grows : (l : LeftTree) (s : Scope) (around after : List Scope) → behind_left l (s ∷ around) ≡ Some after → Grown s around after
left_grows l s around after h =
    let e = (settled l).entity in
    let x = then_some (behind_calls (leaves_at e) l.calls) (behind e (s ∷ around)) after h in
    let g = entity_grows e s around x.0 x.1 in
    grown_on s around x.0 after g (calls_grow (leaves_at e) l.calls g.top around after (ap (behind_calls (leaves_at e) l.calls) (sym g.is) ∙ x.2))

pub lefts_grow : (ls : List LeftTree) (s : Scope) (around after : List Scope) → behind_lefts ls (s ∷ around) ≡ Some after → Grown s around after
lefts_grow [] s around after h = same s around after h
lefts_grow (l ∷ ls) s around after h =
    let x = then_some (behind_lefts ls) (behind_left l (s ∷ around)) after h in
    let g = left_grows l s around x.0 x.1 in
    grown_on s around x.0 after g (lefts_grow ls g.top around after (ap (behind_lefts ls) (sym g.is) ∙ x.2))

-- ---- what is noted

same_itself : (n : Name) → same_name n n ≡ true
same_itself n = λ i. nat_eq_equiv.refl n.out i && nat_eq_equiv.refl n.number i

pub noted_there : (n : Name) (b : Bool) (s : Scope) (around after : List Scope) → noted n b (s ∷ around) ≡ Some after → bit_in after n ≡ Some b
noted_there n b s around after = one (nat_lt n.out s.width) refl
  where
    one : (x : Bool) → nat_lt n.out s.width ≡ x → cond x (Some (with_bit n b s ∷ around)) None ≡ Some after → bit_in after n ≡ Some b
    one false e h = no_scopes after h
    one true e h =
        ap (λ scopes. bit_in scopes n) (sym (same_Some (with_bit n b s ∷ around) after h))
        ∙ (λ i. cond (e i) (cond (same_itself n i) (Some b) (s.bits n)) (bit_in around (further_out s.width n)))

pub where_noted : (n : Name) (o : Option Bool) (scopes after : List Scope) → noted_where n scopes o ≡ Some after → (b : Bool) × (o ≡ Some b) × (noted n b scopes ≡ Some after)
where_noted n None scopes after h = no_scopes after h
where_noted n (Some b) scopes after h = (b, refl, h)

-- ---- scopes that were opened and closed again

pub closed_is : (width : ℕ) (s : Scope) (around inner after : List Scope) → Grown (opened width) (s ∷ around) inner → closed inner ≡ Some after → Some (s ∷ around) ≡ Some after
closed_is width s around inner after g h = sym (ap closed g.is) ∙ h

pub sides_are : (is es : Entries) (s : Scope) (around after : List Scope)
    → option_and_then closed (option_and_then (behind_all es) (behind_all is (opened 2 ∷ s ∷ around))) ≡ Some after → Some (s ∷ around) ≡ Some after
sides_are is es s around after h =
    let x = then_some closed (option_and_then (behind_all es) (behind_all is (opened 2 ∷ s ∷ around))) after h in
    let y = then_some (behind_all es) (behind_all is (opened 2 ∷ s ∷ around)) x.0 x.1 in
    let g = all_grow is (opened 2) (s ∷ around) y.0 y.1 in
    closed_is 2 s around x.0 after
    (grown_on (opened 2) (s ∷ around) y.0 x.0 g (all_grow es g.top (s ∷ around) x.0 (ap (behind_all es) (sym g.is) ∙ y.2))) x.2

-- ---- bits

-- what is so behind it is so before it
pub so_before : (bit : Name → Bool) (s : Scope) (around after : List Scope) → Grown s around after → Extends bit after → Extends bit (s ∷ around)
so_before bit s around after g h n b e = h n b (grows s around after g n b e)
