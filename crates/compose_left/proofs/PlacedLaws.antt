-- The numbers that are noted, and those that are computed, are the ones that the definitions give.
use Rattle.std.proofs.Common.{◌≡◌, ℕ, zero, suc, ◌+◌, ◌*◌, Bool, true, false, cond, List, [], ◌∷◌, ◌++◌, length, map, Option, Some, None, refl, sym, ap, subst, ◌∙◌, arith}
use Rattle.std.specs.Prelude.{find, is_some, unwrap_or, ◌==◌}
use Rattle.std.specs.List.{AllByRecursion}
use Rattle.std.specs.BTreeMap.{get}
use Rattle.comp_entity.specs.Entity.{made, ShapeTree}
use Rattle.comp_entity.specs.Names.{changing}
use Rattle.compose_left.specs.declared.spots.Thing.{Thing}
use Rattle.compose_left.specs.declared.spots.Spot.{Spot}
use Rattle.compose_left.specs.declared.origin.Origin.{Origin}
use Rattle.compose_left.specs.declared.origin.Origin.TheVariants as origins
use Rattle.compose_left.specs.declared.origin.Held.{Held}
use Rattle.compose_left.specs.declared.known.Origins.{Origins}
use Rattle.compose_left.specs.Spots.{spots, resource, named_type}
use Rattle.compose_left.specs.Wiring.{Wiring, HasNoCircle, shape_at, no_shape}
use Rattle.compose_left.specs.Origins.{names, same_thing, brought_at, brought_from, held_at, of_brought, follow, origin, number_in, number_of, table, of_resource, of_type}
use Rattle.compose_left.specs.Numbers.{held_cmp, AreOrigins}
use Rattle.compose_left.specs.Renaming.{number_held, number_at}
use Rattle.compose_left.proofs.NumberLaws.{held_is}
use Rattle.compose_left.proofs.OriginLaws.{origin_step}

all_front : {X : Type 0} (P : X → Type 0) (xs ys : List X) → AllByRecursion P (xs ++ ys) → AllByRecursion P xs × AllByRecursion P ys
all_front P [] ys a = (tt, a)
all_front P (x ∷ xs) ys a = let r = all_front P xs ys a.1 in ((a.0, r.0), r.1)

thing_same : (a b : Thing) → same_thing a b ≡ true → a ≡ b
thing_same a b e = ap (λ (h : Held). h.thing) (held_is (record { instance = 0; thing = a }) (record { instance = 0; thing = b }) e)

found_held : (P : Held → Type 0) (i : ℕ) (t : Thing) (xs : List Spot) (s : Spot) → AllByRecursion P (map (held_at i) xs) → find (names t) xs ≡ Some s → P (record { instance = i; thing = t })
found_held P i t [] s a e = absurd cc
found_held P i t (x ∷ xs) s a e = one (same_thing x.what t) refl e (found_held P i t xs s a.1)
  where
    one : (b : Bool) → same_thing x.what t ≡ b → cond b (Some x) (find (names t) xs) ≡ Some s → (find (names t) xs ≡ Some s → P (record { instance = i; thing = t })) → P (record { instance = i; thing = t })
    one true h e rest = subst (λ (u : Thing). P (record { instance = i; thing = u })) (thing_same x.what t h) a.0
    one false h e rest = rest e

brought_found : (sh : ShapeTree) (t : Thing) (s : Spot) → brought_at sh t ≡ Some s → find (names t) (spots sh.imports) ≡ Some s
brought_found sh t s e = one (t.out == 1) e
  where
    one : (b : Bool) → cond b (find (names t) (spots sh.imports)) None ≡ Some s → find (names t) (spots sh.imports) ≡ Some s
    one true e = e
    one false e = absurd cc

brought_known : (P : Held → Type 0) (shapes : List ShapeTree) (first i at : ℕ) (t : Thing) (s : Spot) → first + i ≡ at → AllByRecursion P (brought_from first shapes) → brought_at (shape_at shapes i) t ≡ Some s → P (record { instance = at; thing = t })
brought_known P [] first i at t s is a e = absurd (let none : None ≡ Some s = brought_found no_shape t s e in cc)
brought_known P (sh ∷ shapes) first zero at t s is a e =
    let same : first ≡ at = omega (arith, is) in
    subst (λ (k : ℕ). P (record { instance = k; thing = t })) same
    (found_held P first t (spots sh.imports) s (all_front P (map (held_at first) (spots sh.imports)) (brought_from (suc first) shapes) a).0 (brought_found sh t s e))
brought_known P (sh ∷ shapes) first (suc i) at t s is a e =
    brought_known P shapes (suc first) i at t s (omega (arith, is)) (all_front P (map (held_at first) (spots sh.imports)) (brought_from (suc first) shapes) a).1 e

module _ (o : Origins) (w : Wiring) (are : AreOrigins o w) (n : HasNoCircle w) where
  not_brought : (h : Held) → get held_cmp o.numbers h ≡ None → (b : Option Spot) → brought_at (shape_at w.shapes h.instance) h.thing ≡ b → b ≡ None
  not_brought h g None e = refl
  not_brought h g (Some s) e =
      let zero_first : 0 + h.instance ≡ h.instance = omega arith in
      let noted = brought_known (λ k. is_some (get held_cmp o.numbers k) ≡ true) w.shapes 0 h.instance h.instance h.thing s zero_first are.all e in
      absurd (let bad : is_some (get held_cmp o.numbers h) ≡ false = ap (λ (r : Option ℕ). is_some r) g in (let worse : true ≡ false = sym noted ∙ bad in cc))

  number_is : (h : Held) (r : Option ℕ) → get held_cmp o.numbers h ≡ r → unwrap_or r (h.thing.number * suc o.instances + h.instance) ≡ number_of w h
  number_is h (Some k) e = (are.numbers h k e).number ∙ ap (λ (os : List Origin). number_in (length w.shapes) os (origin w h)) are.origins
  number_is h None e =
      let made_here : origin w h ≡ origins.Made h.instance h.thing.number =
      origin_step w n h ∙ ap (λ (b : Option Spot). follow (origin w) (of_brought w h b)) (not_brought h e (brought_at (shape_at w.shapes h.instance) h.thing) refl) in
      ap (λ (k : ℕ). h.thing.number * suc k + h.instance) are.instances ∙ sym (ap (number_in (length w.shapes) (table w)) made_here)

  held_number : (h : Held) → number_held o h ≡ number_of w h
  held_number h = number_is h (get held_cmp o.numbers h) refl

  pub change_is : (at : ℕ) → changing (λ m. number_at o at (resource m)) (λ m. number_at o at (named_type m)) ≡ changing (of_resource w at) (of_type w at)
  change_is at = λ i. changing (λ m. made (held_number (record { instance = at; thing = resource m }) i)) (λ m. made (held_number (record { instance = at; thing = named_type m }) i))
