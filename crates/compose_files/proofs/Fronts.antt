-- Fronts of lists: of lists in which each thing stands once, of numbered lists, and of lists that go together.
use Rattle.std.proofs.Common.{◌≡◌, ◌<◌, ◌⊎◌, inl, inr, ℕ, suc, zero, ◌+◌, Bool, true, false, cond, eqb, not, ◌||◌, List, [], ◌∷◌, ◌++◌, length, map, filter, find, drop, get_or, Option, Some, None, slice_get, refl, sym, ap, ◌∙◌, subst, arith, append_assoc}
use Rattle.std.specs.Prelude.{Contains, filter_map}
use Rattle.std.specs.List.{AllByRecursion, AllZip, cons_option, list_any, position_from, range_with_len}
use Rattle.std.proofs.lemmas.Bool.{eq-eqb, ne_eqb}
use Rattle.std.proofs.lemmas.Option.{same_Some}
use Rattle.std.proofs.lemmas.List.{append-nil}
use Rattle.compose_files.specs.Graph.{each_once}
use Rattle.compose_files.proofs.Once.{none_some, once_more, with_one}

pub all_middle : {X : Type 0} (P : X → Type 0) (xs : List X) (y : X) (ys : List X) → AllByRecursion P (xs ++ y ∷ ys) → P y
all_middle P [] y ys h = h.0
all_middle P (x ∷ xs) y ys h = all_middle P xs y ys h.1

-- ---- each thing once

module _ {X : Type 0} (is : X → X → Bool) where
  pub one_behind : (xs : List X) (y : X) → (more : List X) × (with_one is xs y ≡ xs ++ more)
  one_behind xs y = by (list_any (is y) xs)
    where
      by : (b : Bool) → (more : List X) × (cond b xs (xs ++ y ∷ []) ≡ xs ++ more)
      by true = ([], sym (append-nil xs))
      by false = (y ∷ [], refl)

  -- what is in a front comes first
  pub once_front : (sound : (a b : X) → is a b ≡ true → a ≡ b) (xs ys : List X) → (more : List X) × (each_once is (xs ++ ys) ≡ each_once is xs ++ more)
  once_front sound xs [] = ([], ap (each_once is) (append-nil xs) ∙ sym (append-nil (each_once is xs)))
  once_front sound xs (y ∷ ys) =
      let last = one_behind (each_once is xs) y in
      let rest = once_front sound (xs ++ y ∷ []) ys in (
        last.0 ++ rest.0,
        ap (each_once is) (sym (append_assoc xs (y ∷ []) ys)) ∙ rest.1 ∙ ap (λ l. l ++ rest.0) (once_more is sound xs y ∙ last.1) ∙ append_assoc (each_once is xs) last.0 rest.0,
      )

  -- no two are one
  abbrev pub AreApart : List X → Type 0
  AreApart [] = Unit {0}
  AreApart (x ∷ xs) = AllByRecursion (λ y. is y x ≡ false) xs × AreApart xs

  all_filtered : (P : X → Type 0) (p : X → Bool) (xs : List X) → AllByRecursion P xs → AllByRecursion P (filter p xs)
  all_filtered P p [] h = tt
  all_filtered P p (x ∷ xs) h = by (p x) (all_filtered P p xs h.1)
    where
      by : (b : Bool) → AllByRecursion P (filter p xs) → AllByRecursion P (cond b (x ∷ filter p xs) (filter p xs))
      by true later = (h.0, later)
      by false later = later

  filtered_others : (x : X) (xs : List X) → AllByRecursion (λ y. is y x ≡ false) (filter (λ y. not (is y x)) xs)
  filtered_others x [] = tt
  filtered_others x (y ∷ ys) = by (is y x) refl (filtered_others x ys)
    where
      by : (b : Bool) → is y x ≡ b → AllByRecursion (λ y. is y x ≡ false) (filter (λ y. not (is y x)) ys) → AllByRecursion (λ y. is y x ≡ false) (cond (not b) (y ∷ filter (λ y. not (is y x)) ys) (filter (λ y. not (is y x)) ys))
      by true e later = later
      by false e later = (e, later)

  apart_filtered : (p : X → Bool) (xs : List X) → AreApart xs → AreApart (filter p xs)
  apart_filtered p [] h = tt
  apart_filtered p (x ∷ xs) h = by (p x) (apart_filtered p xs h.1)
    where
      by : (b : Bool) → AreApart (filter p xs) → AreApart (cond b (x ∷ filter p xs) (filter p xs))
      by true later = (all_filtered (λ y. is y x ≡ false) p xs h.0, later)
      by false later = later

  pub once_apart : (xs : List X) → AreApart (each_once is xs)
  once_apart [] = tt
  once_apart (x ∷ xs) = (filtered_others x (each_once is xs), apart_filtered (λ y. not (is y x)) (each_once is xs) (once_apart xs))

  -- none in front of it is like one
  pub apart_front : (xs : List X) (y : X) (ys : List X) → AreApart (xs ++ y ∷ ys) → list_any (is y) xs ≡ false
  apart_front [] y ys h = refl
  apart_front (x ∷ xs) y ys h = ap (λ b. b || list_any (is y) xs) (all_middle (λ z. is z x ≡ false) xs y ys h.0) ∙ apart_front xs y ys h.1

-- ---- places

pub place_in_front : {X : Type 0} (t : X → Bool) (n k : ℕ) (xs ys : List X) → position_from t n xs ≡ Some k → position_from t n (xs ++ ys) ≡ Some k
place_in_front t n k [] ys h = absurd (none_some k (sym h))
place_in_front {X} t n k (x ∷ xs) ys h = by (t x) h (place_in_front t (n + 1) k xs ys)
  where
    by : (b : Bool) → cond b (Some n) (position_from t (n + 1) xs) ≡ Some k → (position_from t (n + 1) xs ≡ Some k → position_from t (n + 1) (xs ++ ys) ≡ Some k) → cond b (Some n) (position_from t (n + 1) (xs ++ ys)) ≡ Some k
    by true h later = h
    by false h later = later h

-- a place is below the length, and what is there passes
pub place_holds : {X : Type 0} (t : X → Bool) (n k : ℕ) (xs : List X) → position_from t n xs ≡ Some k → (x : X) × (i : ℕ) × (k ≡ n + i) × (i < length xs) × (slice_get xs i ≡ Some x) × (t x ≡ true)
place_holds t n k [] h = absurd (none_some k (sym h))
place_holds {X} t n k (x ∷ xs) h = by (t x) refl h (place_holds t (n + 1) k xs)
  where
    by : (b : Bool) → t x ≡ b → cond b (Some n) (position_from t (n + 1) xs) ≡ Some k
        → (position_from t (n + 1) xs ≡ Some k → (y : X) × (i : ℕ) × (k ≡ n + 1 + i) × (i < length xs) × (slice_get xs i ≡ Some y) × (t y ≡ true))
        → (y : X) × (i : ℕ) × (k ≡ n + i) × (i < suc (length xs)) × (slice_get (x ∷ xs) i ≡ Some y) × (t y ≡ true)
    by true e h later = let same = same_Some n k h in (x, 0, omega arith, omega arith, refl, e)
    by false e h later =
        let l = later h in
        let at = l.2 in
        let less = l.3 in
        (l.0, suc l.1, omega arith, omega arith, l.4, l.5)

pub get_in_front : {X : Type 0} (xs ys : List X) (n : ℕ) → n < length xs → slice_get (xs ++ ys) n ≡ slice_get xs n
get_in_front [] ys n less = absurd (omega arith)
get_in_front (x ∷ xs) ys zero less = refl
get_in_front (x ∷ xs) ys (suc n) less = get_in_front xs ys n (omega arith)

pub get_within : {X : Type 0} (xs : List X) (n : ℕ) → n < length xs → (x : X) × (slice_get xs n ≡ Some x)
get_within [] n less = absurd (omega arith)
get_within (x ∷ xs) zero less = (x, refl)
get_within (x ∷ xs) (suc n) less = get_within xs n (omega arith)

-- ---- numbered lists

module _ {X : Type 0} (number : X → ℕ) where
  pub number_at : (from n : ℕ) (xs : List X) (x : X) (m : ℕ) → map number xs ≡ range_with_len from m → slice_get xs n ≡ Some x → number x ≡ from + n
  number_at from n [] x m h there = absurd (none_some x (sym there))
  number_at from n (y ∷ xs) x zero h there = absurd cc
  number_at from zero (y ∷ xs) x (suc m) h there =
      let head : number y ≡ from = ap (λ l. get_or l 0 0) h in
      sym (ap number (same_Some y x there)) ∙ head ∙ omega arith
  number_at from (suc n) (y ∷ xs) x (suc m) h there =
      let later = number_at (from + 1) n xs x m (ap (drop 1) h) there in omega arith

  -- what has a number stands at its place
  pub found_at : (from n : ℕ) (xs : List X) → map number xs ≡ range_with_len from (length xs) → find (λ x. eqb (from + n) (number x)) xs ≡ slice_get xs n
  found_at from n [] h = refl
  found_at from zero (x ∷ xs) h =
      let head : number x ≡ from = ap (λ l. get_or l 0 0) h in
      ap (λ b. cond b (Some x) (find (λ x. eqb (from + 0) (number x)) xs)) (eq-eqb (from + 0) (number x) (omega arith))
  found_at from (suc n) (x ∷ xs) h =
      let head : number x ≡ from = ap (λ l. get_or l 0 0) h in
      ap (λ b. cond b (Some x) (find (λ x. eqb (from + suc n) (number x)) xs)) (ne_eqb (from + suc n) (number x) (λ e. omega arith))
      ∙ ap (λ m. find (λ x. eqb m (number x)) xs) (let same : from + suc n ≡ from + 1 + n = omega arith in same) ∙ found_at (from + 1) n xs (ap (drop 1) h)

-- ---- lists that go together

pub zip_at : {A B : Type 0} (P : A → B → Type 0) (xs : List A) (ys : List B) (n : ℕ) (x : A) → AllZip P xs ys → slice_get xs n ≡ Some x → (y : B) × (slice_get ys n ≡ Some y) × P x y
zip_at P [] ys n x h there = absurd (none_some x (sym there))
zip_at P (a ∷ xs) [] n x h there = absurd h
zip_at P (a ∷ xs) (b ∷ ys) zero x h there = (b, refl, subst (λ z. P z b) (same_Some a x there) h.0)
zip_at P (a ∷ xs) (b ∷ ys) (suc n) x h there = zip_at P xs ys n x h.1 there

pub zip_long : {A B : Type 0} (P : A → B → Type 0) (xs : List A) (ys : List B) → AllZip P xs ys → length xs ≡ length ys
zip_long P [] [] h = refl
zip_long P [] (b ∷ ys) h = absurd h
zip_long P (a ∷ xs) [] h = absurd h
zip_long P (a ∷ xs) (b ∷ ys) h = ap suc (zip_long P xs ys h.1)

-- one in the middle goes with something
pub zip_middle : {A B : Type 0} (P : A → B → Type 0) (xs : List A) (x : A) (rest : List A) (ys : List B) → AllZip P (xs ++ x ∷ rest) ys → (y : B) × P x y
zip_middle P [] x rest [] h = absurd h
zip_middle P [] x rest (y ∷ ys) h = (y, h.0)
zip_middle P (a ∷ xs) x rest [] h = absurd h
zip_middle P (a ∷ xs) x rest (y ∷ ys) h = zip_middle P xs x rest ys h.1

-- what goes with the same is the same
pub zip_same : {A B : Type 0} (P Q : A → B → Type 0) → ((a : A) (x y : B) → P a x → Q a y → x ≡ y) → (keys : List A) (xs ys : List B) → AllZip P keys xs → AllZip Q keys ys → xs ≡ ys
zip_same P Q one [] [] [] p q = refl
zip_same P Q one [] [] (y ∷ ys) p q = absurd q
zip_same P Q one [] (x ∷ xs) ys p q = absurd p
zip_same P Q one (a ∷ keys) [] ys p q = absurd p
zip_same P Q one (a ∷ keys) (x ∷ xs) [] p q = absurd q
zip_same P Q one (a ∷ keys) (x ∷ xs) (y ∷ ys) p q = λ k. one a x y p.0 q.0 k ∷ zip_same P Q one keys xs ys p.1 q.1 k

-- ---- what is in a list

abbrev pub IsIn : {X : Type 0} → X → List X → Type 0
IsIn x [] = ⊥
IsIn x (y ∷ ys) = (x ≡ y) ⊎ IsIn x ys

pub in_either : {X : Type 0} (x : X) (xs ys : List X) → IsIn x (xs ++ ys) → IsIn x xs ⊎ IsIn x ys
in_either x [] ys h = inr h
in_either {X} x (y ∷ xs) ys h = by h (in_either x xs ys)
  where
    later : IsIn x xs ⊎ IsIn x ys → ((x ≡ y) ⊎ IsIn x xs) ⊎ IsIn x ys
    later (inl h) = inl (inr h)
    later (inr h) = inr h

    by : (x ≡ y) ⊎ IsIn x (xs ++ ys) → (IsIn x (xs ++ ys) → IsIn x xs ⊎ IsIn x ys) → ((x ≡ y) ⊎ IsIn x xs) ⊎ IsIn x ys
    by (inl e) either = inl (inl e)
    by (inr h) either = later (either h)

pub in_by_place : {X : Type 0} (xs : List X) (x : X) → Contains xs x → IsIn x xs
in_by_place [] x h = let less = h.1 in absurd (omega arith)
in_by_place {X} (y ∷ xs) x h = by h.0 h.1 h.2 (in_by_place xs x)
  where
    by : (k : ℕ) → k < suc (length xs) → get_or (y ∷ xs) k x ≡ x → (Contains xs x → IsIn x xs) → (x ≡ y) ⊎ IsIn x xs
    by zero less e later = inl (sym e)
    by (suc k) less e later = inr (later (k, omega arith, e))

pub all_in : {X : Type 0} (P : X → Type 0) (xs : List X) (x : X) → AllByRecursion P xs → IsIn x xs → P x
all_in P [] x h i = absurd i
all_in P (y ∷ xs) x h (inl e) = subst P (sym e) h.0
all_in P (y ∷ xs) x h (inr i) = all_in P xs x h.1 i

pub all_front : {X : Type 0} (P : X → Type 0) (xs ys : List X) → AllByRecursion P (xs ++ ys) → AllByRecursion P xs
all_front P [] ys h = tt
all_front P (x ∷ xs) ys h = (h.0, all_front P xs ys h.1)

pub all_back : {X : Type 0} (P : X → Type 0) (xs ys : List X) → AllByRecursion P (xs ++ ys) → AllByRecursion P ys
all_back P [] ys h = h
all_back P (x ∷ xs) ys h = all_back P xs ys h.1

pub all_both : {X : Type 0} (P : X → Type 0) (xs ys : List X) → AllByRecursion P xs → AllByRecursion P ys → AllByRecursion P (xs ++ ys)
all_both P [] ys p q = q
all_both P (x ∷ xs) ys p q = (p.0, all_both P xs ys p.1 q)

-- one of those that go with nothing or something is of one that it goes with
pub zip_given : {A B : Type 0} (P : A → Option B → Type 0) (xs : List A) (ys : List (Option B)) (y : B) → AllZip P xs ys → IsIn y (filter_map (λ o. o) ys) → (x : A) × IsIn x xs × P x (Some y)
zip_given P [] [] y h i = absurd i
zip_given P [] (b ∷ ys) y h i = absurd h
zip_given P (a ∷ xs) [] y h i = absurd h
zip_given P (a ∷ xs) (None ∷ ys) y h i = let later = zip_given P xs ys y h.1 i in (later.0, inr later.1, later.2)
zip_given P (a ∷ xs) (Some b ∷ ys) y h (inl e) = (a, inl refl, subst (λ z. P a (Some z)) (sym e) h.0)
zip_given P (a ∷ xs) (Some b ∷ ys) y h (inr i) = let later = zip_given P xs ys y h.1 i in (later.0, inr later.1, later.2)

-- what one in a list gives is among what the list gives
pub in_filtered : {A B : Type 0} (f : A → Option B) (xs : List A) (x : A) (y : B) → IsIn x xs → f x ≡ Some y → IsIn y (filter_map f xs)
in_filtered f [] x y i e = absurd i
in_filtered {A} {B} f (a ∷ xs) x y i e = by i (f a) refl (λ later. in_filtered f xs x y later e)
  where
    by : (x ≡ a) ⊎ IsIn x xs → (o : Option B) → f a ≡ o → (IsIn x xs → IsIn y (filter_map f xs)) → IsIn y (cons_option o (filter_map f xs))
    by (inl same) None is later = absurd (none_some y (sym e ∙ ap f same ∙ is))
    by (inl same) (Some z) is later = inl (same_Some y z (sym e ∙ ap f same ∙ is))
    by (inr i) None is later = later i
    by (inr i) (Some z) is later = inr (later i)

pub any_in : {X : Type 0} (is : X → X → Bool) → ((a : X) → is a a ≡ true) → (xs : List X) (x : X) → IsIn x xs → list_any (is x) xs ≡ true
any_in is self [] x i = absurd i
any_in is self (y ∷ xs) x (inl e) = ap (λ z. is x z || list_any (is x) xs) (sym e) ∙ ap (λ b. b || list_any (is x) xs) (self x)
any_in is self (y ∷ xs) x (inr i) = ap (λ b. is x y || b) (any_in is self xs x i) ∙ either (is x y)
  where
    either : (b : Bool) → (b || true) ≡ true
    either true = refl
    either false = refl

-- ---- each of a list, by its places and by how it came

pub all_by_place : {X : Type 0} (P : X → Type 0) (xs : List X) → ((n : ℕ) (x : X) → slice_get xs n ≡ Some x → P x) → AllByRecursion P xs
all_by_place P [] h = tt
all_by_place P (x ∷ xs) h = (h 0 x refl, all_by_place P xs (λ n y there. h (suc n) y there))

pub all_once : {X : Type 0} (is : X → X → Bool) (P : X → Type 0) (xs : List X) → AllByRecursion P xs → AllByRecursion P (each_once is xs)
all_once is P [] h = tt
all_once is P (x ∷ xs) h = (h.0, all_filtered is P (λ y. not (is y x)) (each_once is xs) (all_once is P xs h.1))

pub all_given : {A B : Type 0} (f : A → Option B) (P : B → Type 0) → ((a : A) (b : B) → f a ≡ Some b → P b) → (xs : List A) → AllByRecursion P (filter_map f xs)
all_given f P h [] = tt
all_given {A} {B} f P h (a ∷ xs) = by (f a) refl (all_given f P h xs)
  where
    by : (o : Option B) → f a ≡ o → AllByRecursion P (filter_map f xs) → AllByRecursion P (cons_option o (filter_map f xs))
    by None e later = later
    by (Some b) e later = (h a b e, later)
