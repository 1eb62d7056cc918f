-- Wires that go to instances made later have no circle.
use Rattle.std.proofs.Common.{◌≡◌, ℕ, ◌+◌, ◌<◌, Bool, true, false, cond, List, [], ◌∷◌, length, take, Some, min, refl, sym, subst, arith, slice_index_or}
use Rattle.std.specs.Prelude.{◌&&◌, ◌==◌}
use Rattle.std.proofs.lemmas.Bool.{eqb-true}
use Rattle.std.specs.List.{AllByRecursion}
use Rattle.std.proofs.lemmas.List.{take_more}
use Rattle.std.proofs.lemmas.Option.{same_Some}
use Rattle.comp_entity.specs.Entity.{ShapeTree}
use Rattle.compose_left.proofs.ListLaws.{all_push}
use Rattle.compose_left.specs.declared.wiring.Wire.{Wire}
use Rattle.compose_left.specs.Wiring.{HasNoCircle, IsForward, is_into, wire_into}

pub forward_step : (n : ℕ) (ws : List Wire) (i : ℕ) (d : Wire) → i < length ws → AllByRecursion (IsForward n) (take i ws) → (slice_index_or ws i d).source < (slice_index_or ws i d).target → (slice_index_or ws i d).target < n
    → AllByRecursion (IsForward n) (take (i + 1) ws)
forward_step n ws i d lt a s t = subst (AllByRecursion (IsForward n)) (sym (take_more ws i d lt)) (all_push (IsForward n) (take i ws) (slice_index_or ws i d) a (record { later = s; there = t }))

both_left : (a b : Bool) → (a && b) ≡ true → a ≡ true
both_left true b e = refl
both_left false b e = absurd cc

found : (n target import : ℕ) (ws : List Wire) (w : Wire) → AllByRecursion (IsForward n) ws → wire_into ws target import ≡ Some w → IsForward n w × (w.target ≡ target)
found n target import [] w a e = absurd cc
found n target import (x ∷ ws) w a e = one (is_into target import x) refl e (found n target import ws w a.1)
  where
    one : (b : Bool) → is_into target import x ≡ b → cond b (Some x) (wire_into ws target import) ≡ Some w → (wire_into ws target import ≡ Some w → IsForward n w × (w.target ≡ target)) → IsForward n w × (w.target ≡ target)
    one true h e rest =
        let same : x ≡ w = same_Some x w e in
        subst (λ (v : Wire). IsForward n v × (v.target ≡ target)) same (a.0, eqb-true x.target target (both_left (x.target == target) (x.import == import) h))
    one false h e rest = rest e

pub no_circle : (shapes : List ShapeTree) (ws : List Wire) → AllByRecursion (IsForward (length shapes)) ws → HasNoCircle (record { shapes = shapes; wires = ws })
no_circle shapes ws a = record {
  place = λ i. min i (length shapes);
  behind = λ target import wire e. let f = found (length shapes) target import ws wire a e in let s = f.0.later in let t = f.0.there in let is = f.1 in omega (arith, s, t, is);
  within = λ i. omega arith;
}
