-- A map that is copied entry by entry.
use Rattle.std.proofs.Common.{◌≡◌, ℕ, zero, suc, ◌+◌, ◌<◌, ◌≤◌, List, [], ◌∷◌, length, map, take, slice_get, Bool, true, false, cond, Some, None, refl, sym, ap, ◌∙◌, arith, bytes_eq, add-one}
use Rattle.std.specs.List.{IsDistinct, AllByRecursion}
use Rattle.std.specs.Map.{keys_of}
use Rattle.std.specs.Cmp.Lexicographic.{nat_list_eq_equiv}
use Rattle.indexmap.specs.IndexMap.{insert_entry}
use Rattle.yaml_read.specs.Entries.{seen_entry}

some_is : {A : Type 0} (x y : A) → Some x ≡ Some y → x ≡ y
some_is x y h = cc

none_some : {A : Type 0} (x : A) → None ≡ Some x → ⊥
none_some x h = cc

-- an insertion, seen in another way
seen_insert : {V S : Type 0} (seen : V → S) (es : List (List ℕ × V)) (key : List ℕ) (v : V)
    → map (seen_entry seen) (insert_entry bytes_eq es key v) ≡ insert_entry bytes_eq (map (seen_entry seen) es) key (seen v)
seen_insert seen [] key v = refl
seen_insert {V} {S} seen (e ∷ es) key v = by_test (seen_insert seen es key v) (bytes_eq key e.0)
  where
    by_test : map (seen_entry seen) (insert_entry bytes_eq es key v) ≡ insert_entry bytes_eq (map (seen_entry seen) es) key (seen v) → (b : Bool) → map (seen_entry seen) (cond b ((e.0, v) ∷ es) (e ∷ insert_entry bytes_eq es key v))
        ≡ cond b ((e.0, seen v) ∷ map (seen_entry seen) es) ((e.0, seen e.1) ∷ insert_entry bytes_eq (map (seen_entry seen) es) key (seen v))
    by_test others true = refl
    by_test others false = ap (λ (x : List (List ℕ × S)). (e.0, seen e.1) ∷ x) others

-- a key that stands further behind is another one
other_key : {V : Type 0} (p : List ℕ) (es : List (List ℕ × V)) (i : ℕ) (e : List ℕ × V) → AllByRecursion (λ k. bytes_eq p k ≡ false) (keys_of es) → slice_get es i ≡ Some e → bytes_eq p e.0 ≡ false
other_key p [] i e apart h = absurd (none_some e h)
other_key {V} p (x ∷ es) zero e apart h = ap (λ (y : List ℕ × V). bytes_eq p y.0) (sym (some_is x e h)) ∙ apart.0
other_key p (x ∷ es) (suc i) e apart h = other_key p es i e apart.1 h

-- the entry at an index, put behind those before it
next_entry : {V S : Type 0} (seen : V → S) (es : List (List ℕ × V)) (i : ℕ) (e : List ℕ × V) → IsDistinct bytes_eq (keys_of es) → slice_get es i ≡ Some e
    → insert_entry bytes_eq (take i (map (seen_entry seen) es)) e.0 (seen e.1) ≡ take (suc i) (map (seen_entry seen) es)
unfolding IsDistinct
next_entry seen [] i e distinct h = absurd (none_some e h)
next_entry {V} {S} seen (x ∷ es) zero e distinct h = ap (λ (y : List ℕ × V). (y.0, seen y.1) ∷ []) (sym (some_is x e h))
next_entry {V} {S} seen (x ∷ es) (suc i) e distinct h =
    let other : bytes_eq e.0 x.0 ≡ false = nat_list_eq_equiv.symm e.0 x.0 ∙ other_key x.0 es i e distinct.0 h in
    ap (λ (b : Bool). cond b ((x.0, seen e.1) ∷ take i (map (seen_entry seen) es)) ((x.0, seen x.1) ∷ insert_entry bytes_eq (take i (map (seen_entry seen) es)) e.0 (seen e.1))) other
    ∙ ap (λ (ys : List (List ℕ × S)). (x.0, seen x.1) ∷ ys) (next_entry seen es i e distinct.1 h)

-- the copies up to an index, and one more
pub copied_next : {V S : Type 0} (seen : V → S) (es done : List (List ℕ × V)) (i : ℕ) (key : List ℕ) (v w : V) → IsDistinct bytes_eq (keys_of es) → map (seen_entry seen) done ≡ take i (map (seen_entry seen) es) → Some (key, v) ≡ slice_get es i → seen w ≡ seen v
    → map (seen_entry seen) (insert_entry bytes_eq done key w) ≡ take (i + 1) (map (seen_entry seen) es)
copied_next {V} {S} seen es done i key v w distinct so h same =
    seen_insert seen done key w ∙ ap (λ (s : S). insert_entry bytes_eq (map (seen_entry seen) done) key s) same
    ∙ ap (λ (xs : List (List ℕ × S)). insert_entry bytes_eq xs key (seen v)) so
    ∙ next_entry seen es i (key, v) distinct (sym h)
    ∙ ap (λ (n : ℕ). take n (map (seen_entry seen) es)) (sym (add-one i))

pub copied_none : {V : Type 0} (es : List (List ℕ × V)) (i : ℕ) → i < length es → None ≡ slice_get es i → ⊥
copied_none [] i less h = omega arith
copied_none (x ∷ es) zero less h = none_some x h
copied_none (x ∷ es) (suc i) less h = copied_none es i (omega arith) h

no_less : {n : ℕ} → suc n ≤ 0 → ⊥
no_less le = omega arith

pub copied_all : {V S : Type 0} (seen : V → S) (es : List (List ℕ × V)) (i : ℕ) → length es ≤ i → take i (map (seen_entry seen) es) ≡ map (seen_entry seen) es
copied_all seen [] zero le = refl
copied_all seen [] (suc i) le = refl
copied_all seen (x ∷ es) zero le = absurd (no_less le)
copied_all {V} {S} seen (x ∷ es) (suc i) le = ap (λ (ys : List (List ℕ × S)). (x.0, seen x.1) ∷ ys) (copied_all seen es i (omega arith))

pub ruleset copied_map = (copied_next, copied_none, copied_all)
