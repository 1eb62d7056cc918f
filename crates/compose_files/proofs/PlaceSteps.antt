-- The search for the first of some entries, from a place on.
use Rattle.std.proofs.Common.{◌≡◌, ℕ, ◌+◌, ◌<◌, suc, Bool, true, false, cond, List, ◌∷◌, length, drop, drop-cons, map, get_or, Some, None, sym, ap, ◌∙◌, add-one}
use Rattle.std.specs.List.{position_from}
use Rattle.std.proofs.Math.Seq.{drop-length}

module _ {X Y : Type 0} (f : X → Y) (p : Y → Bool) (xs : List X) where
  -- the entry of a place, and the rest
  pub at_place : (i : ℕ) (x : X) → i < length xs → x ≡ get_or xs i x → position_from p i (map f (drop i xs)) ≡ cond (p (f x)) (Some i) (position_from p (i + 1) (map f (drop (i + 1) xs)))
  at_place i x lt is =
      ap (λ (ys : List X). position_from p i (map f ys)) (drop-cons xs i x lt ∙ ap (λ (y : X). y ∷ drop (suc i) xs) (sym is))
      ∙ ap (λ (n : ℕ). cond (p (f x)) (Some i) (position_from p (i + 1) (map f (drop n xs)))) (sym (add-one i))

  pub found_here : (i : ℕ) (x : X) → i < length xs → x ≡ get_or xs i x → p (f x) ≡ true → position_from p i (map f (drop i xs)) ≡ Some i
  found_here i x lt is passes = at_place i x lt is ∙ ap (λ b. cond b (Some i) (position_from p (i + 1) (map f (drop (i + 1) xs)))) passes

  pub passed_by : (i : ℕ) (x : X) → i < length xs → x ≡ get_or xs i x → p (f x) ≡ false → position_from p i (map f (drop i xs)) ≡ position_from p (i + 1) (map f (drop (i + 1) xs))
  passed_by i x lt is fails = at_place i x lt is ∙ ap (λ b. cond b (Some i) (position_from p (i + 1) (map f (drop (i + 1) xs)))) fails

  -- behind the last place
  pub found_none : (i : ℕ) → i ≡ length xs → position_from p i (map f (drop i xs)) ≡ None
  found_none i end = ap (λ (n : ℕ). position_from p i (map f (drop n xs))) end ∙ ap (λ (ys : List X). position_from p i (map f ys)) (drop-length xs)
