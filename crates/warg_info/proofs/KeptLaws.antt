-- The last of a log that is kept, and places that ascend.
use Rattle.std.proofs.Common.{◌≡◌, ◌-◌, ◌++◌, ◌∷◌, [], List, true, Option, Some, None, refl, ◌∙◌, ap, arith, length, map}
use Rattle.std.specs.Prelude.{slice_get}
use Rattle.warg_log.specs.History.{last_or}
use Rattle.warg_info.specs.Kept.{Kept, last_kept, index_of, is_above, AreAbove}

at_end : {A B : Type 0} (f : A → B) (d : Option B) (y : A) (ys : List A) (x : A) → slice_get (y ∷ ys) (length ys) ≡ Some x → last_or d (map (λ k. Some k) (map f (y ∷ ys))) ≡ Some (f x)
at_end f d y [] x e = let same : y ≡ x = cc in ap (λ k. Some (f k)) same
at_end f d y (z ∷ zs) x e = at_end f (Some (f y)) z zs x e

-- what stands at the last place is the last
pub last-at : {A B : Type 0} (f : A → B) (xs : List A) (x : A) → slice_get xs (length xs - 1) ≡ Some x → last_or None (map (λ k. Some k) (map f xs)) ≡ Some (f x)
last-at f [] x e = absurd cc
last-at f (y ∷ ys) x e = let last : length ys ≡ length (y ∷ ys) - 1 = omega arith in at_end f None y ys x (ap (slice_get (y ∷ ys)) last ∙ e)

last_behind : (d : Option Kept) (log : List Kept) (k : Kept) → last_or d (map (λ k. Some k) (log ++ k ∷ [])) ≡ Some k
last_behind d [] k = refl
last_behind d (j ∷ log) k = last_behind (Some j) log k

-- what is put behind a log is its last
pub last-push : (log : List Kept) (k : Kept) → last_kept (log ++ k ∷ []) ≡ Some k
last-push log k = last_behind None log k

above_behind : (before : Option Kept) (log : List Kept) (k : Kept) → AreAbove (index_of before) log → is_above k.registry_index (index_of (last_or before (map (λ k. Some k) log))) ≡ true → AreAbove (index_of before) (log ++ k ∷ [])
above_behind before [] k above is = (is, tt)
above_behind before (j ∷ log) k above is = (above.0, above_behind (Some j) log k above.1 is)

-- places ascend with one more above the last
pub above-push : (log : List Kept) (k : Kept) → AreAbove None log → is_above k.registry_index (index_of (last_kept log)) ≡ true → AreAbove None (log ++ k ∷ [])
above-push log k above is = above_behind None log k above is
