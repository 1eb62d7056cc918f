-- Numbers that count up, as more are given and some are taken out.
use Rattle.std.proofs.Common.{◌≡◌, ◌∙◌, ap, sym, arith, ℕ, suc, ◌<◌, ◌≤◌, Bool, true, false, cond, List, [], ◌∷◌, ◌++◌, map}
use Rattle.std.specs.Prelude.{◌==◌, filter}
use Rattle.std.specs.List.{AllByRecursion}
use Rattle.std.specs.Cmp.{unsigned_ties, nat_cmp_is}
use Rattle.std.specs.Ordering.{is_eq}
use Rattle.std.specs.declared.cmp.Ordering.TheVariants.{Less}
use Rattle.compose_graph.specs.Kept.{CountUp}

pub apart : (a b : ℕ) → a < b → (a == b) ≡ false
apart a b lt = unsigned_ties a b ∙ ap is_eq (sym (nat_cmp_is a b Less lt))

pub count_weaker : (low from next : ℕ) (ids : List ℕ) → from ≤ low → CountUp low ids next → CountUp from ids next
count_weaker low from next [] le c = omega (arith, le, c)
count_weaker low from next (id ∷ ids) le c = let h = c.0 in (omega (arith, le, h), c.1)

pub count_low : (low next : ℕ) (ids : List ℕ) → CountUp low ids next → low ≤ next
count_low low next [] c = c
count_low low next (id ∷ ids) c = let h = c.0 in let k = count_low (suc id) next ids c.1 in omega (arith, h, k)

pub count_added : (low next : ℕ) (ids : List ℕ) → CountUp low ids next → CountUp low (ids ++ next ∷ []) (suc next)
count_added low next [] c = let h : suc next ≤ suc next = omega arith in (c, h)
count_added low next (id ∷ ids) c = (c.0, count_added (suc id) next ids c.1)

module _ {X : Type 0} (f : X → ℕ) where
  pub count_below : (low next : ℕ) (xs : List X) → CountUp low (map f xs) next → AllByRecursion (λ x. f x < next) xs
  count_below low next [] c = tt
  count_below low next (x ∷ xs) c = let k = count_low (suc (f x)) next (map f xs) c.1 in let lt : f x < next = omega (arith, k) in (lt, count_below (suc (f x)) next xs c.1)

  pub count_kept : (low next : ℕ) (p : X → Bool) (xs : List X) → CountUp low (map f xs) next → CountUp low (map f (filter p xs)) next
  count_kept low next p [] c = c
  count_kept low next p (x ∷ xs) c = one (p x) (count_kept (suc (f x)) next p xs c.1)
    where
      one : (b : Bool) → CountUp (suc (f x)) (map f (filter p xs)) next → CountUp low (map f (cond b (x ∷ filter p xs) (filter p xs))) next
      one true rest = (c.0, rest)
      one false rest = let h = c.0 in count_weaker (suc (f x)) low next (map f (filter p xs)) (omega (arith, h)) rest
