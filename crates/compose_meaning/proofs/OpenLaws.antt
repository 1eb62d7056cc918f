-- A scope at its begin: what is known around it is known in it.
use Rattle.std.proofs.Common.{◌≡◌, ◌⊎◌, inl, inr, ℕ, suc, ◌+◌, ◌-◌, Bool, true, false, cond, ◌&&◌, ◌||◌, List, [], ◌∷◌, Option, Some, None, refl, sym, ap, subst, ◌∙◌, arith}
use Rattle.std.specs.Prelude.{option_map, option_and_then, is_some, nat_lt, nat_le, ◌==◌}
use Rattle.std.proofs.lemmas.Option.{option_and_then_some}
use Rattle.comp_entity.specs.Entity.{Name, made, Value, Resource, Func, Instance, Component, EntityTree, IsType, IsFunc, IsInstance, IsComponent, IsModule, IsOwnModule}
use Rattle.comp_entity.specs.Names.{changing, deeper, entity_by, without_places, bare, Mention, OfResource, OfPlace}
use Rattle.comp_entity.specs.NameLaws.{entity_twice, deeper_twice}
use Rattle.comp_scope.specs.Spaces.{Spaces, Known, Standing, nothing_known}
use Rattle.comp_scope.specs.Aliases.{width, from_outside}
use Rattle.comp_scope.specs.Descriptions.{opened}
use Rattle.comp_scope.specs.Types.{with_decls}
use Rattle.compose_writing.specs.Keys.{At, known_at, name_outside, mention_outside, holds_there, from_within}
use Rattle.compose_writing.specs.Scopes.{WrittenScope, knows}
use Rattle.compose_writing.specs.Scopes.{opened as opened_scope}
use Rattle.compose_meaning.specs.Meaning.{placing, Meant, Means}
use Rattle.compose_meaning.specs.Stands.{inward, further_out, AllKnow, Kept, reach_in, reach, StaysWithin, IsFree, MayBring}
use Rattle.compose_meaning.specs.Described.{count, new_of}
use Rattle.compose_meaning.specs.Readable.{SpotKind, Importing, Exporting, new_name, Spot, is_new, inside}
use Rattle.compose_meaning.proofs.ListLaws.{map_some, or_left, or_right, and_left, and_right}
use Rattle.compose_meaning.proofs.NameLaws.{bare_change, placing_bare, deeper_none, value_mentions}
use Rattle.compose_meaning.proofs.KnownLaws.{mention_back}

-- ---- mentions further in

pub inward_none : (key : Mention) → inward 0 key ≡ key
inward_none (OfResource n) = ap OfResource (deeper_none n)
inward_none (OfPlace n) = ap OfPlace (deeper_none n)

pub name_out : (w : ℕ) (n : Name) → name_outside w (deeper w n) ≡ Some n
name_out w n =
    let past : nat_lt (n.out + w) w ≡ false = grind arith in
    let back : n.out + w - w ≡ n.out = omega arith in
    rw past (ap (λ m. Some (record { out = m; number = n.number })) back)

pub mention_out : (w : ℕ) (key : Mention) → mention_outside w (inward w key) ≡ Some key
mention_out w (OfResource n) = ap (option_map OfResource) (name_out w n)
mention_out w (OfPlace n) = ap (option_map OfPlace) (name_out w n)

known_inward : (m : WrittenScope) (ms : List WrittenScope) (key : Mention) → knows ms key ≡ true → knows (m ∷ ms) (inward m.width key) ≡ true
unfolding knows
known_inward m ms key h = or_right (is_some (known_at m.known (inward m.width key))) (from_within m.width (knows ms) (inward m.width key)) (ap (holds_there (knows ms)) (mention_out m.width key) ∙ h)

pub reach_knows : (ms : List WrittenScope) (key : Mention) (up : ℕ) → reach ms key ≡ Some up → knows ms key ≡ true
unfolding reach knows
reach_knows [] key up h = absurd cc
reach_knows (m ∷ ms) key up h = one (known_at m.known key) refl (λ other n a. reach_knows ms other n a) h
  where
    one : (o : Option At) → known_at m.known key ≡ o → ((other : Mention) (n : ℕ) → reach ms other ≡ Some n → knows ms other ≡ true) → reach_in o (option_and_then (reach ms) (mention_outside m.width key)) ≡ Some up
        → (is_some (known_at m.known key) || from_within m.width (knows ms) key) ≡ true
    one (Some at) is rest h = or_left (is_some (known_at m.known key)) (from_within m.width (knows ms) key) (ap is_some is)
    one None is rest h = map_some suc (option_and_then (reach ms) (mention_outside m.width key)) up h (λ n a b. option_and_then_some (reach ms) (mention_outside m.width key) n a (λ other e f.
        or_right (is_some (known_at m.known key)) (from_within m.width (knows ms) key) (ap (holds_there (knows ms)) e ∙ rest other n f)))

-- ---- what is known so many scopes of names further in

-- what it means there
abbrev pub Shifts : ℕ → (Mention → Bool) → (Mention → Meant) → (Mention → Meant) → Type 0
Shifts names known means inner = (key : Mention) → known key ≡ true → (entity_by (placing (deeper names)) 0 (means key).entity ≡ (inner key).entity) × ((means key).bit ≡ (inner key).bit)

means_shift : (d u : ℕ) (what there : Meant) (s : Standing) → entity_by (placing (deeper u)) 0 what.entity ≡ there.entity → what.bit ≡ there.bit → Means d what s → Means (d + u) there s
means_shift d u what there s is bit m = record {
  ty = m.ty;
  is_type = m.is_type;
  is = ap bare (sym (entity_twice (changing (deeper u) (deeper u)) (changing (deeper d) (deeper d)) (changing (deeper (d + u)) (deeper (d + u))) (deeper_twice u d) 0 s.0))
      ∙ entity_twice without_places (changing (deeper u) (deeper u)) (placing (deeper u)) (bare_change (deeper u) (deeper u)) 0 (from_outside d s.0)
      ∙ sym (entity_twice (placing (deeper u)) without_places (placing (deeper u)) (placing_bare (deeper u)) 0 (from_outside d s.0))
      ∙ ap (entity_by (placing (deeper u)) 0) m.is ∙ is;
  is_named = m.is_named;
  bit = m.bit ∙ bit;
}

pub know_shift : (d u : ℕ) (means inner : Mention → Meant) (ms : List WrittenScope) (ks : List Known) → Shifts u (knows ms) means inner → AllKnow d means ms ks → AllKnow (d + u) inner ms ks
unfolding knows
know_shift d u means inner [] [] shift k = tt
know_shift d u means inner [] (t ∷ ks) shift k = elim k [ ]
know_shift d u means inner (m ∷ ms) [] shift k = elim k [ ]
know_shift d u means inner (m ∷ ms) (t ∷ ks) shift k = (
  (λ key at h. let x = k.0 key at h in let same = shift key (or_left (is_some (known_at m.known key)) (from_within m.width (knows ms) key) (ap is_some h)) in (x.0, x.1, means_shift d u (means key) (inner key) x.0 same.0 same.1 x.2)),
  subst (λ (n : ℕ). AllKnow n (further_out m.width inner) ms ks) (sum_is (width t.spaces)) (know_shift (d + width t.spaces) u (further_out m.width means) (further_out m.width inner) ms ks (λ key h. shift (inward m.width key) (known_inward m ms key h)) k.1),
)
  where
    sum_is : (w : ℕ) → d + w + u ≡ d + u + w
    sum_is w = omega arith

-- ---- a scope at its begin

pub opened_kept : (u w : ℕ) (is_closed : Bool) (inner mean : Mention → Meant) (ms : List WrittenScope) (ks : List Known) → u ≡ width (nothing_known is_closed).spaces → Shifts u (knows ms) mean (further_out w inner) → Kept 0 mean ms ks
    → Kept 0 inner (opened_scope w ∷ ms) (nothing_known is_closed ∷ ks)
unfolding with_decls
opened_kept u w is_closed inner mean ms ks is shift k = record {
  stand = (record { reads = λ outer g. refl; types = refl; instances = refl; core_types = refl }, k.stand);
  know = ((λ key at h. absurd cc), subst (λ (n : ℕ). AllKnow (0 + n) (further_out w inner) ms ks) is (know_shift 0 u mean (further_out w inner) ms ks shift k.know));
}

pub free_placed : (f : Name → Name) (e : EntityTree) → IsFree e → IsFree (entity_by (placing f) 0 e)
free_placed f (IsType (Value t)) h = value_mentions (placing f) 0 t ∙ h
free_placed f (IsType (Resource r)) h = elim h [ ]
free_placed f (IsType (Func g)) h = elim h [ ]
free_placed f (IsType (Instance es)) h = elim h [ ]
free_placed f (IsType (Component is es)) h = elim h [ ]
free_placed f (IsFunc g) h = elim h [ ]
free_placed f (IsInstance es) h = elim h [ ]
free_placed f (IsComponent is es) h = elim h [ ]
free_placed f (IsModule m) h = elim h [ ]
free_placed f IsOwnModule h = elim h [ ]

-- what may be mentioned in a type of instances may be brought in
pub opened_brings : (u w : ℕ) (may inner_may : Mention → Bool) (mean inner : Mention → Meant) (ms : List WrittenScope) (ks : List Known) → Shifts u (knows ms) mean (further_out w inner) → ((key : Mention) → inner_may (inward w key) ≡ true → may key ≡ true)
    → MayBring may mean ms ks → MayBring inner_may inner (opened_scope w ∷ ms) (nothing_known false ∷ ks)
unfolding reach
opened_brings u w may inner_may mean inner ms ks shift mays b key up is at = map_some suc (option_and_then (reach ms) (mention_outside w key)) up at (λ n a c. option_and_then_some (reach ms) (mention_outside w key) n a (λ other e f.
    let back : inward w other ≡ key = mention_back w key other e in
    let known = reach_knows ms other n f in
    one n other back c (shift other known).0 (b other n (mays other (ap inner_may back ∙ is)) f)))
  where
    one : (n : ℕ) (other : Mention) → inward w other ≡ key → suc n ≡ up → entity_by (placing (deeper u)) 0 (mean other).entity ≡ (inner (inward w other)).entity → StaysWithin n ks ⊎ IsFree (mean other).entity
        → StaysWithin up (nothing_known false ∷ ks) ⊎ IsFree (inner key).entity
    one n other back same agree (inl stays) = inl (subst (λ (up : ℕ). StaysWithin up (nothing_known false ∷ ks)) same (refl, stays))
    one n other back same agree (inr free) = inr (subst (λ (key : Mention). IsFree (inner key).entity) back (subst IsFree agree (free_placed (deeper u) (mean other).entity free)))

-- ---- within a type of instances

-- what an instance's type makes is what is new in the instance
pub inside_turns : (p : Spot) (s : Spaces) → count p.side s ≡ p.resources → (n : Name) → opened (new_of p.side s).resource (inside p n) ≡ n
inside_turns p s same n = one p.side p.resources same (is_new p n) refl
  where
    past : (r : ℕ) → nat_le r n.number ≡ true → r + (n.number - r) ≡ n.number
    past r h = grind (arith, h)

    is_out : (out : ℕ) → (n.out == out) ≡ true → out ≡ n.out
    is_out out h = grind (arith, h)

    not_first : (n.out + 1 == 0) ≡ false
    not_first = grind arith

    one_less : n.out + 1 - 1 ≡ n.out
    one_less = omega arith

    one : (side : SpotKind) (r : ℕ) → count side s ≡ r → (b : Bool) → ((n.out == (new_name side 0).out) && nat_le r n.number) ≡ b → opened (new_of side s).resource (cond b (made (n.number - r)) (deeper 1 n)) ≡ n
    one side r same false is = rw not_first (ap (λ m. record { out = m; number = n.number }) one_less)
    one Importing r same true is =
        let out = is_out 1 (and_left (n.out == 1) (nat_le r n.number) is) in
        let number = ap (λ c. c + (n.number - r)) same ∙ past r (and_right (n.out == 1) (nat_le r n.number) is) in
        λ i. record { out = out i; number = number i }
    one Exporting r same true is =
        let out = is_out 0 (and_left (n.out == 0) (nat_le r n.number) is) in
        let number = ap (λ c. c + (n.number - r)) same ∙ past r (and_right (n.out == 0) (nat_le r n.number) is) in
        λ i. record { out = out i; number = number i }
