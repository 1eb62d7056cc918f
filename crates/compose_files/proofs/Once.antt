-- Lists in which each thing stands once, at its first place, and the places of things.
use Rattle.std.proofs.Common.{◌≡◌, ℕ, suc, zero, ◌+◌, Bool, true, false, cond, not, ◌||◌, List, [], ◌∷◌, ◌++◌, length, filter, find, Some, None, is_some, slice_get, refl, sym, ap, ◌∙◌, subst, arith}
use Rattle.std.specs.List.{AllByRecursion, AllZip, list_any, position_from, range_with_len}
use Rattle.std.specs.Option.{option_or}
use Rattle.std.proofs.lemmas.Option.{same_Some}
use Rattle.std.proofs.lemmas.List.{append-nil}
use Rattle.std.proofs.lemmas.List.Elements.{filter-append}
use Rattle.compose_files.specs.Graph.{each_once}

-- the list with one thing more, where it is not there
abbrev pub with_one : {X : Type 0} → (X → X → Bool) → List X → X → List X
with_one is xs y = cond (list_any (is y) xs) xs (xs ++ y ∷ [])

module _ {X : Type 0} (is : X → X → Bool) where
  -- one thing more
  once_more_raw : (xs : List X) (y : X) → each_once is (xs ++ y ∷ []) ≡ cond (list_any (is y) xs) (each_once is xs) (each_once is xs ++ y ∷ [])
  once_more_raw [] y = refl
  once_more_raw (x ∷ xs) y = ap (λ l. x ∷ filter (λ z. not (is z x)) l) (once_more_raw xs y) ∙ by (list_any (is y) xs) (is y x) refl
    where
      alone : (b : Bool) → is y x ≡ b → filter (λ z. not (is z x)) (y ∷ []) ≡ cond b [] (y ∷ [])
      alone true e = ap (λ b. cond (not b) (y ∷ []) []) e
      alone false e = ap (λ b. cond (not b) (y ∷ []) []) e

      by : (a b : Bool) → is y x ≡ b → x ∷ filter (λ z. not (is z x)) (cond a (each_once is xs) (each_once is xs ++ y ∷ [])) ≡ cond (b || a) (each_once is (x ∷ xs)) (each_once is (x ∷ xs) ++ y ∷ [])
      by true true e = refl
      by true false e = refl
      by false true e = ap (λ l. x ∷ l) (filter-append (λ z. not (is z x)) (each_once is xs) (y ∷ []) ∙ ap (λ l. filter (λ z. not (is z x)) (each_once is xs) ++ l) (alone true e) ∙ append-nil (filter (λ z. not (is z x)) (each_once is xs)))
      by false false e = ap (λ l. x ∷ l) (filter-append (λ z. not (is z x)) (each_once is xs) (y ∷ []) ∙ ap (λ l. filter (λ z. not (is z x)) (each_once is xs) ++ l) (alone false e))

  module _ (sound : (a b : X) → is a b ≡ true → a ≡ b) where
    any_left : (x y : X) (xs : List X) → is y x ≡ false → list_any (is y) (filter (λ z. not (is z x)) xs) ≡ list_any (is y) xs
    any_left x y [] h = refl
    any_left x y (z ∷ zs) h = by (is z x) refl (any_left x y zs h)
      where
        by : (b : Bool) → is z x ≡ b → list_any (is y) (filter (λ z. not (is z x)) zs) ≡ list_any (is y) zs → list_any (is y) (cond (not b) (z ∷ filter (λ z. not (is z x)) zs) (filter (λ z. not (is z x)) zs)) ≡ (is y z || list_any (is y) zs)
        by true e later = later ∙ sym (ap (λ b. b || list_any (is y) zs) (ap (is y) (sound z x e) ∙ h))
        by false e later = ap (λ b. is y z || b) later

    -- what is in a list is in it once
    pub any_once : (xs : List X) (y : X) → list_any (is y) (each_once is xs) ≡ list_any (is y) xs
    any_once [] y = refl
    any_once (x ∷ xs) y = by (is y x) refl (any_once xs y)
      where
        by : (b : Bool) → is y x ≡ b → list_any (is y) (each_once is xs) ≡ list_any (is y) xs → (b || list_any (is y) (filter (λ z. not (is z x)) (each_once is xs))) ≡ (b || list_any (is y) xs)
        by true e later = refl
        by false e later = any_left x y (each_once is xs) e ∙ later

    -- one thing more in a list is one thing more where it is not there
    pub once_more : (xs : List X) (y : X) → each_once is (xs ++ y ∷ []) ≡ with_one is (each_once is xs) y
    once_more xs y = once_more_raw xs y ∙ ap (λ b. cond b (each_once is xs) (each_once is xs ++ y ∷ [])) (sym (any_once xs y))

-- ---- places

-- what has a place is there
pub place_there : {X : Type 0} (t : X → Bool) (n : ℕ) (xs : List X) → is_some (position_from t n xs) ≡ list_any t xs
place_there t n [] = refl
place_there {X} t n (x ∷ xs) = by (t x) (place_there t (n + 1) xs)
  where
    by : (b : Bool) → is_some (position_from t (n + 1) xs) ≡ list_any t xs → is_some (cond b (Some n) (position_from t (n + 1) xs)) ≡ (b || list_any t xs)
    by true later = refl
    by false later = later

-- a place in a longer list
pub place_behind : {X : Type 0} (t : X → Bool) (n : ℕ) (xs : List X) (y : X) → position_from t n (xs ++ y ∷ []) ≡ option_or (position_from t n xs) (cond (t y) (Some (n + length xs)) None)
place_behind t n [] y = ap (λ m. cond (t y) (Some m) None) (omega arith)
place_behind {X} t n (x ∷ xs) y = by (t x) (place_behind t (n + 1) xs y)
  where
    far : cond (t y) (Some (n + 1 + length xs)) None ≡ cond (t y) (Some (n + suc (length xs))) None
    far = ap (λ m. cond (t y) (Some m) None) (omega arith)

    by : (b : Bool) → position_from t (n + 1) (xs ++ y ∷ []) ≡ option_or (position_from t (n + 1) xs) (cond (t y) (Some (n + 1 + length xs)) None)
        → cond b (Some n) (position_from t (n + 1) (xs ++ y ∷ [])) ≡ option_or (cond b (Some n) (position_from t (n + 1) xs)) (cond (t y) (Some (n + suc (length xs))) None)
    by true later = refl
    by false later = later ∙ ap (option_or (position_from t (n + 1) xs)) far

-- one number more
pub numbers_more : (a n : ℕ) → range_with_len a (suc n) ≡ range_with_len a n ++ (a + n) ∷ []
numbers_more a zero = ap (λ m. m ∷ []) (omega arith)
numbers_more a (suc n) = ap (λ l. a ∷ l) (numbers_more (a + 1) n ∙ ap (λ m. range_with_len (a + 1) n ++ m ∷ []) (omega arith))

pub length_more : {X : Type 0} (xs : List X) (x : X) → length (xs ++ x ∷ []) ≡ suc (length xs)
length_more [] x = refl
length_more (y ∷ xs) x = ap suc (length_more xs x)

-- ---- each of a list

pub none_some : {A : Type 0} (x : A) → Some x ≡ None → ⊥
none_some x h = cc

pub all_more : {X : Type 0} (P : X → Type 0) (xs : List X) (x : X) → AllByRecursion P xs → P x → AllByRecursion P (xs ++ x ∷ [])
all_more P [] x h p = (p, tt)
all_more P (y ∷ xs) x h p = (h.0, all_more P xs x h.1 p)

pub all_weaker : {X : Type 0} (P Q : X → Type 0) → ((x : X) → P x → Q x) → (xs : List X) → AllByRecursion P xs → AllByRecursion Q xs
all_weaker P Q f [] h = tt
all_weaker P Q f (x ∷ xs) h = (f x h.0, all_weaker P Q f xs h.1)

pub all_at : {X : Type 0} (P : X → Type 0) (xs : List X) (n : ℕ) (x : X) → slice_get xs n ≡ Some x → AllByRecursion P xs → P x
all_at P [] n x there h = absurd (none_some x (sym there))
all_at P (y ∷ xs) zero x there h = subst P (same_Some y x there) h.0
all_at P (y ∷ xs) (suc n) x there h = all_at P xs n x there h.1

pub all_found : {X : Type 0} (P : X → Type 0) (t : X → Bool) (xs : List X) (x : X) → find t xs ≡ Some x → AllByRecursion P xs → P x × (t x ≡ true)
all_found P t [] x found h = absurd (none_some x (sym found))
all_found {X} P t (y ∷ xs) x found h = by (t y) refl found (λ later. all_found P t xs x later h.1)
  where
    by : (b : Bool) → t y ≡ b → cond b (Some y) (find t xs) ≡ Some x → (find t xs ≡ Some x → P x × (t x ≡ true)) → P x × (t x ≡ true)
    by true e found later = let same = same_Some y x found in (subst P same h.0, ap t (sym same) ∙ e)
    by false e found later = later found

pub zip_weaker : {A B : Type 0} (P Q : A → B → Type 0) → ((a : A) (b : B) → P a b → Q a b) → (xs : List A) (ys : List B) → AllZip P xs ys → AllZip Q xs ys
zip_weaker P Q f [] [] h = tt
zip_weaker P Q f [] (y ∷ ys) h = absurd h
zip_weaker P Q f (x ∷ xs) [] h = absurd h
zip_weaker P Q f (x ∷ xs) (y ∷ ys) h = (f x y h.0, zip_weaker P Q f xs ys h.1)

pub zip_more : {A B : Type 0} (P : A → B → Type 0) (xs : List A) (ys : List B) (x : A) (y : B) → AllZip P xs ys → P x y → AllZip P (xs ++ x ∷ []) (ys ++ y ∷ [])
zip_more P [] [] x y h p = (p, tt)
zip_more P [] (b ∷ ys) x y h p = absurd h
zip_more P (a ∷ xs) [] x y h p = absurd h
zip_more P (a ∷ xs) (b ∷ ys) x y h p = (h.0, zip_more P xs ys x y h.1 p)
