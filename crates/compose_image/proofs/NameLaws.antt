-- No two left imports have one name.
use Rattle.std.proofs.Common.{◌≡◌, ℕ, zero, suc, ◌≤◌, Bool, true, false, cond, List, [], ◌∷◌, ◌++◌, Option, Some, None, find, map, slice_get, refl, sym, ap, subst, arith}
use Rattle.std.specs.Prelude.{bytes_eq, option_to_list}
use Rattle.std.specs.List.{AllByRecursion, fold}
use Rattle.compose_left.specs.Wiring.{Wiring}
use Rattle.compose_needs.specs.Lefts.{lefts_of}
use Rattle.compose_order.specs.Agreed.{AreOrdered, all_needs, import_at_number, in_turn}
use Rattle.compose_order.specs.Needs.{LeftTree}
use Rattle.compose_check.specs.Open.{Asked, left_open, lefts, merged_with, with_asked}
use Rattle.compose_naming.specs.Settled.{settled}
use Rattle.compose_image.specs.Writable.{HaveOwnNames, is_of}
use Rattle.compose_image.proofs.ListLaws.{all_append, all_at, all_none, none_found}
use Rattle.compose_image.proofs.OrderLaws.{once, times, times_before, times_first}
use Rattle.compose_image.proofs.SeenImportLaws.{other_name}

abbrev IsOther : List ℕ → LeftTree → Type 0
IsOther name l = is_of name l ≡ false

-- ---- as they are merged

others_asked : (name : List ℕ) (ls : List LeftTree) (x : Asked) → bytes_eq name x.0 ≡ false
    → AllByRecursion (IsOther name) ls → AllByRecursion (IsOther name) (with_asked ls x)
others_asked name [] x e a = (e, tt)
others_asked name (l ∷ ls) x e a = by (bytes_eq x.0 l.name) (others_asked name ls x e a.1)
  where
    by : (b : Bool) → AllByRecursion (IsOther name) (with_asked ls x)
        → AllByRecursion (IsOther name) (cond b (merged_with l x.1 ∷ ls) (l ∷ with_asked ls x))
    by true later = a
    by false later = (a.0, later)

own_asked : (ls : List LeftTree) (x : Asked) → HaveOwnNames ls → HaveOwnNames (with_asked ls x)
own_asked [] x h = (refl, tt)
own_asked (l ∷ ls) x h = by (bytes_eq x.0 l.name) refl (own_asked ls x h.1)
  where
    by : (b : Bool) → bytes_eq x.0 l.name ≡ b → HaveOwnNames (with_asked ls x)
        → HaveOwnNames (cond b (merged_with l x.1 ∷ ls) (l ∷ with_asked ls x))
    by true e later = h
    by false e later = (
      all_none (is_of l.name) (with_asked ls x)
          (others_asked l.name ls x (other_name x.0 l.name e) (none_found (is_of l.name) ls h.0)),
      later,
    )

own_merged : (ls : List LeftTree) (xs : List Asked) → HaveOwnNames ls → HaveOwnNames (fold with_asked ls xs)
own_merged ls [] h = h
own_merged ls (x ∷ xs) h = own_merged (with_asked ls x) xs (own_asked ls x h)

-- ---- in an order

-- imports at two places have two names
apart : (ls : List LeftTree) (n m : ℕ) (l k : LeftTree) → HaveOwnNames ls → slice_get ls n ≡ Some l
    → slice_get ls m ≡ Some k → (n ≡ m → ⊥) → is_of l.name k ≡ false
apart [] n m l k h e f two = absurd cc
apart (j ∷ ls) zero zero l k h e f two = absurd (two refl)
apart (j ∷ ls) zero (suc m) l k h e f two =
    let same : j ≡ l = cc in
    subst (λ (x : LeftTree). is_of x.name k ≡ false) same
    (all_at (IsOther j.name) ls m k (none_found (is_of j.name) ls h.0) f)
apart (j ∷ ls) (suc n) zero l k h e f two =
    let same : j ≡ k = cc in
    subst (λ (x : LeftTree). is_of l.name x ≡ false) same
    (other_name j.name l.name (all_at (IsOther j.name) ls n l (none_found (is_of j.name) ls h.0) e))
apart (j ∷ ls) (suc n) (suc m) l k h e f two = apart ls n m l k h.1 e f (λ same. two (ap suc same))

others_in_turn : (ls : List LeftTree) (order : List ℕ) (n : ℕ) (l : LeftTree) → HaveOwnNames ls
    → slice_get ls n ≡ Some l → times n order ≡ 0 → AllByRecursion (IsOther l.name) (in_turn ls order)
others_in_turn ls [] n l h e none = tt
others_in_turn ls (m ∷ order) n l h e none =
    all_append (IsOther l.name) (import_at_number ls m) (in_turn ls order) (by (slice_get ls m) refl)
    (others_in_turn ls order n l h e (omega (arith, none, times_before n m order)))
  where
    two : n ≡ m → ⊥
    two same = omega (arith, none, times_first n order, ap (λ k. times n (k ∷ order)) same)

    by : (o : Option LeftTree) → slice_get ls m ≡ o → AllByRecursion (IsOther l.name) (option_to_list o)
    by None f = tt
    by (Some k) f = (apart ls n m l k h e f two, tt)

own_in_turn : (ls : List LeftTree) (order : List ℕ) → HaveOwnNames ls → ((n : ℕ) → times n order ≤ 1)
    → HaveOwnNames (in_turn ls order)
own_in_turn ls [] h one = tt
own_in_turn ls (m ∷ order) h one =
    by (slice_get ls m) refl (own_in_turn ls order h (λ n. omega (arith, one n, times_before n m order)))
  where
    by : (o : Option LeftTree) → slice_get ls m ≡ o → HaveOwnNames (in_turn ls order)
        → HaveOwnNames (option_to_list o ++ in_turn ls order)
    by None e later = later
    by (Some l) e later = (
      all_none (is_of l.name) (in_turn ls order)
          (others_in_turn ls order m l h e (omega (arith, one m, times_first m order))),
      later,
    )

pub own_names : (w : Wiring) (out : List LeftTree) → AreOrdered (lefts_of w) (lefts w) out → HaveOwnNames out
own_names w out o =
    subst HaveOwnNames (sym o.written)
    (own_in_turn (lefts w) o.order (own_merged [] (left_open w) tt)
    (once (all_needs (lefts_of w) (lefts w)) o.order o.numbered.in_order))

-- ---- as they are written

none_settled : (name : List ℕ) (ls : List LeftTree) → find (is_of name) ls ≡ None → find (is_of name) (map settled ls) ≡ None
none_settled name [] e = refl
none_settled name (l ∷ ls) e = by (bytes_eq name l.name) e (none_settled name ls)
  where
    by : (b : Bool) → cond b (Some l) (find (is_of name) ls) ≡ None
        → (find (is_of name) ls ≡ None → find (is_of name) (map settled ls) ≡ None)
        → cond b (Some (settled l)) (find (is_of name) (map settled ls)) ≡ None
    by true e later = absurd cc
    by false e later = later e

pub own_settled : (ls : List LeftTree) → HaveOwnNames ls → HaveOwnNames (map settled ls)
own_settled [] h = tt
own_settled (l ∷ ls) h = (none_settled l.name ls h.0, own_settled ls h.1)
