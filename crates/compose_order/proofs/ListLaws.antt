-- Lists, as loops go over them.
use Rattle.std.proofs.Common.{◌≡◌, ℕ, zero, suc, ◌+◌, ◌<◌, ◌≤◌, Bool, true, false, List, [], ◌∷◌, ◌++◌, length, map, take, drop, get_or, slice_index_or, Some, refl, sym, ap, subst, ◌∙◌, arith, append_assoc}
use Rattle.std.specs.Prelude.{◌&&◌, flat_map, slice_get, Vec}
use Rattle.std.specs.Global.{Global}
use Rattle.std.specs.List.{AllByRecursion, list_all}
use Rattle.std.proofs.lemmas.Option.{same_Some}
use Rattle.std.proofs.lemmas.List.{drop_more, map-append, take_more}

pub all_push : {X : Type 0} (P : X → Type 0) (xs : List X) (x : X) → AllByRecursion P xs → P x → AllByRecursion P (xs ++ x ∷ [])
all_push P [] x all p = (p, tt)
all_push P (y ∷ xs) x all p = (all.0, all_push P xs x all.1 p)

pub mapped_more : {X Y : Type 0} (f : X → Y) (xs : List X) (i : ℕ) (x : X) → i < length xs → x ≡ slice_index_or xs i x → map f (take (i + 1) xs) ≡ map f (take i xs) ++ f x ∷ []
mapped_more f xs i x lt is = ap (map f) (take_more xs i x lt ∙ ap (λ y. take i xs ++ y ∷ []) (sym is)) ∙ map-append f (take i xs) (x ∷ [])

pub mapped_push : {X Y : Type 0} (f : X → Y) (old new : List X) (x : X) (ys : List Y) (y : Y) → new ≡ old ++ x ∷ [] → map f old ≡ ys → f x ≡ y → map f new ≡ ys ++ y ∷ []
mapped_push f old new x ys y is before here = ap (map f) is ∙ map-append f old (x ∷ []) ∙ (λ i. before i ++ here i ∷ [])

pub length-mapped : {X Y : Type 0} (f : X → Y) (xs : List X) (i : ℕ) → i ≤ length xs → i ≡ length (map f (take i xs))
length-mapped f xs zero le = refl
length-mapped f [] (suc i) le = absurd (omega (arith, le))
length-mapped f (x ∷ xs) (suc i) le = ap suc (length-mapped f xs i (omega (arith, le)))

module _ {X : Type 0} (f : X → Bool) (xs : List X) (i : ℕ) (d : X) (all : Bool) (lt : i < length xs) where
  pub one_fails : f (get_or xs i d) ≡ false → list_all f (drop i xs) ≡ all → false ≡ all
  one_fails fails h = sym (ap (list_all f) (drop_more xs i d lt) ∙ ap (λ b. b && list_all f (drop (i + 1) xs)) fails) ∙ h

  pub one_passes : f (get_or xs i d) ≡ true → list_all f (drop i xs) ≡ all → list_all f (drop (i + 1) xs) ≡ all
  one_passes passes h = sym (ap (list_all f) (drop_more xs i d lt) ∙ ap (λ b. b && list_all f (drop (i + 1) xs)) passes) ∙ h

-- something of each, and that of the mapped list
pub each_at : {X : Type 0} (P : X → Type 0) (xs : List X) (i : ℕ) (x : X) → AllByRecursion P xs → i < length xs → x ≡ slice_index_or xs i x → P x
each_at P [] i x all lt is = absurd (omega (arith, lt))
each_at P (y ∷ xs) zero x all lt is = subst P (sym is) all.0
each_at P (y ∷ xs) (suc i) x all lt is = each_at P xs i x all.1 (omega (arith, lt)) is

pub mapped_at : {X Y : Type 0} (f : X → Y) (xs : List X) (ys : List Y) (i : ℕ) (x : X) → map f xs ≡ ys → i < length xs → x ≡ slice_index_or xs i x → slice_get ys i ≡ Some (f x)
mapped_at f xs ys i x e lt is = ap (λ zs. slice_get zs i) (sym e) ∙ at xs i x lt is
  where
    at : (xs : List _) (i : ℕ) (x : _) → i < length xs → x ≡ slice_index_or xs i x → slice_get (map f xs) i ≡ Some (f x)
    at [] i x lt is = absurd (omega (arith, lt))
    at (y ∷ xs) zero x lt is = ap (λ z. Some (f z)) (sym is)
    at (y ∷ xs) (suc i) x lt is = at xs i x (omega (arith, lt)) is

pub front_more : {Y : Type 0} (ys : List Y) (i : ℕ) (y : Y) → slice_get ys i ≡ Some y → take (i + 1) ys ≡ take i ys ++ y ∷ []
front_more ys i y e = let next : i + 1 ≡ suc i = omega arith in ap (λ j. take j ys) next ∙ at ys i e
  where
    at : (ys : List _) (i : ℕ) → slice_get ys i ≡ Some y → take (suc i) ys ≡ take i ys ++ y ∷ []
    at [] i e = absurd cc
    at (z ∷ ys) zero e = ap (λ x. x ∷ []) (same_Some z y e)
    at (z ∷ ys) (suc i) e = ap (λ zs. z ∷ zs) (at ys i e)

pub length-of-mapped : {X Y : Type 0} (f : X → Y) (xs : List X) (ys : List Y) → map f xs ≡ ys → length xs ≡ length ys
length-of-mapped f xs ys e = at xs ∙ ap length e
  where
    at : (xs : List _) → length xs ≡ length (map f xs)
    at [] = refl
    at (x ∷ xs) = ap suc (at xs)

pub all_taken : {X : Type 0} (xs : List X) (n : ℕ) → length xs ≤ n → take n xs ≡ xs
all_taken [] zero le = refl
all_taken [] (suc n) le = refl
all_taken (x ∷ xs) zero le = absurd (omega (arith, le))
all_taken (x ∷ xs) (suc n) le = ap (λ ys. x ∷ ys) (all_taken xs n (omega (arith, le)))

pub nothing_behind : {X : Type 0} (xs : List X) (i : ℕ) → length xs ≤ i → drop i xs ≡ []
nothing_behind [] zero le = refl
nothing_behind [] (suc i) le = refl
nothing_behind (x ∷ xs) zero le = absurd (omega (arith, le))
nothing_behind (x ∷ xs) (suc i) le = nothing_behind xs i (omega (arith, le))

no_more : {X : Type 0} (xs : List X) → xs ++ [] ≡ xs
no_more [] = refl
no_more (x ∷ xs) = ap (λ ys. x ∷ ys) (no_more xs)

-- what each of some things gives, added one after the other
module _ {X Y Z : Type 0} (g : Y → Z) (f : X → List Y) (xs : List X) (i : ℕ) where
  pub given_more : (d : X) (old new all : List Z) → i < length xs → new ≡ old ++ map g (f (get_or xs i d)) → old ++ map g (flat_map f (drop i xs)) ≡ all → new ++ map g (flat_map f (drop (i + 1) xs)) ≡ all
  given_more d old new all lt is h =
      ap (λ zs. zs ++ map g (flat_map f (drop (i + 1) xs))) is ∙ append_assoc old (map g (f (get_or xs i d))) (map g (flat_map f (drop (i + 1) xs)))
      ∙ ap (λ zs. old ++ zs) (sym (map-append g (f (get_or xs i d)) (flat_map f (drop (i + 1) xs))) ∙ ap (λ ys. map g (flat_map f ys)) (sym (drop_more xs i d lt))) ∙ h

  pub given_all : (old all : List Z) → length xs ≤ i → old ++ map g (flat_map f (drop i xs)) ≡ all → old ≡ all
  given_all old all le h = sym (no_more old) ∙ ap (λ ys. old ++ map g (flat_map f ys)) (sym (nothing_behind xs i le)) ∙ h

pub both_hold : (a b c r : Bool) → a ≡ true → b ≡ true → r ≡ c → r ≡ (a && (b && c))
both_hold true true c r p q e = e
both_hold true false c r p q e = absurd cc
both_hold false b c r p q e = absurd cc

abbrev pub items_of : Vec ℕ Global → List ℕ
items_of v = v.items
