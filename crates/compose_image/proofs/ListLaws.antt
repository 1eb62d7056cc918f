-- Facts of lists: what holds of each element, and of some element.
use Rattle.std.proofs.Common.{◌≡◌, ◌∙◌, ◌⊎◌, inl, inr, ℕ, zero, suc, ◌<◌, Bool, true, false, cond, List, [], ◌∷◌, ◌++◌, length, Some, None, slice_get, filter, refl, sym, ap, subst, arith}
use Rattle.std.specs.Prelude.{◌||◌}
use Rattle.std.specs.List.{AllByRecursion, find, list_any}

module _ {X : Type 0} where
  -- what stands at an index, and behind the others
  pub still_at : (xs ys : List X) (n : ℕ) (x : X) → slice_get xs n ≡ Some x → slice_get (xs ++ ys) n ≡ Some x
  still_at [] ys n x e = absurd cc
  still_at (y ∷ xs) ys zero x e = e
  still_at (y ∷ xs) ys (suc n) x e = still_at xs ys n x e

  pub last_at : (xs : List X) (x : X) (n : ℕ) → length xs ≡ n → slice_get (xs ++ x ∷ []) n ≡ Some x
  last_at [] x n e = rw (← e) refl
  last_at (y ∷ xs) x n e = rw (← e) (last_at xs x (length xs) refl)

  -- ---- each element

  pub all_push : (P : X → Type 0) (xs : List X) (x : X) → AllByRecursion P xs → P x → AllByRecursion P (xs ++ x ∷ [])
  all_push P [] x a h = (h, tt)
  all_push P (y ∷ xs) x a h = (a.0, all_push P xs x a.1 h)

  pub all_append : (P : X → Type 0) (xs ys : List X) → AllByRecursion P xs → AllByRecursion P ys
      → AllByRecursion P (xs ++ ys)
  all_append P [] ys a b = b
  all_append P (x ∷ xs) ys a b = (a.0, all_append P xs ys a.1 b)

  pub all_after : (P Q : X → Type 0) (xs : List X) → ((x : X) → P x → Q x) → AllByRecursion P xs → AllByRecursion Q xs
  all_after P Q [] f a = tt
  all_after P Q (x ∷ xs) f a = (f x a.0, all_after P Q xs f a.1)

  pub all_both : (P Q R : X → Type 0) (xs : List X) → ((x : X) → P x → Q x → R x) → AllByRecursion P xs
      → AllByRecursion Q xs → AllByRecursion R xs
  all_both P Q R [] f a b = tt
  all_both P Q R (x ∷ xs) f a b = (f x a.0 b.0, all_both P Q R xs f a.1 b.1)

  pub all_always : (P : X → Type 0) (xs : List X) → ((x : X) → P x) → AllByRecursion P xs
  all_always P [] f = tt
  all_always P (x ∷ xs) f = (f x, all_always P xs f)

  pub all_at : (P : X → Type 0) (xs : List X) (n : ℕ) (x : X) → AllByRecursion P xs → slice_get xs n ≡ Some x → P x
  all_at P [] n x a e = absurd cc
  all_at P (y ∷ xs) zero x a e = let same : y ≡ x = cc in subst P same a.0
  all_at P (y ∷ xs) (suc n) x a e = all_at P xs n x a.1 e

  pub all_left : (P : X → Type 0) (xs ys : List X) → AllByRecursion P (xs ++ ys) → AllByRecursion P xs
  all_left P [] ys a = tt
  all_left P (x ∷ xs) ys a = (a.0, all_left P xs ys a.1)

  pub all_right : (P : X → Type 0) (xs ys : List X) → AllByRecursion P (xs ++ ys) → AllByRecursion P ys
  all_right P [] ys a = a
  all_right P (x ∷ xs) ys a = all_right P xs ys a.1

  pub all_filter : (P : X → Type 0) (test : X → Bool) (xs : List X) → AllByRecursion P xs
      → AllByRecursion P (filter test xs)
  all_filter P test [] a = tt
  all_filter P test (x ∷ xs) a = by (test x) (all_filter P test xs a.1)
    where
      by : (b : Bool) → AllByRecursion P (filter test xs)
          → AllByRecursion P (cond b (x ∷ filter test xs) (filter test xs))
      by true h = (a.0, h)
      by false h = h

  -- what is found passes the test, and has what each has
  pub record Finds (P : X → Type 0) (test : X → Bool) (xs : List X) : Type 0 where
    pub x : X
    pub found : find test xs ≡ Some x
    pub passes : test x ≡ true
    pub has : P x

  pub finds : (P : X → Type 0) (test : X → Bool) (xs : List X) → AllByRecursion P xs → list_any test xs ≡ true
      → Finds P test xs
  finds P test [] a e = absurd cc
  finds P test (x ∷ xs) a e = by (test x) refl (λ h. finds P test xs a.1 h)
    where
      by : (b : Bool) → test x ≡ b → (list_any test xs ≡ true → Finds P test xs) → Finds P test (x ∷ xs)
      by true t more = record { x = x; found = ap (λ b. cond b (Some x) (find test xs)) t; passes = t; has = a.0 }
      by false t more =
          let h = more (sym (ap (λ b. b || list_any test xs) t) ∙ e) in
          record {
            x = h.x;
            found = ap (λ b. cond b (Some x) (find test xs)) t ∙ h.found;
            passes = h.passes;
            has = h.has;
          }

  -- nothing is found: no element passes
  pub none_found : (test : X → Bool) (xs : List X) → find test xs ≡ None → AllByRecursion (λ x. test x ≡ false) xs
  none_found test [] e = tt
  none_found test (x ∷ xs) e = by (test x) refl (λ h. none_found test xs h)
    where
      by : (b : Bool) → test x ≡ b → (find test xs ≡ None → AllByRecursion (λ x. test x ≡ false) xs)
          → AllByRecursion (λ x. test x ≡ false) (x ∷ xs)
      by true t more = let h : None ≡ Some x = sym e ∙ ap (λ b. cond b (Some x) (find test xs)) t in absurd cc
      by false t more = (t, more (sym (ap (λ b. cond b (Some x) (find test xs)) t) ∙ e))

  -- and the other way
  pub all_none : (test : X → Bool) (xs : List X) → AllByRecursion (λ x. test x ≡ false) xs → find test xs ≡ None
  all_none test [] a = refl
  all_none test (x ∷ xs) a = ap (λ b. cond b (Some x) (find test xs)) a.0 ∙ all_none test xs a.1

  -- ---- some element

  abbrev pub AnyOf : (X → Type 0) → List X → Type 0
  AnyOf P [] = ⊥
  AnyOf P (x ∷ xs) = P x ⊎ AnyOf P xs

  pub any_left : (P : X → Type 0) (xs ys : List X) → AnyOf P xs → AnyOf P (xs ++ ys)
  any_left P [] ys h = absurd h
  any_left P (x ∷ xs) ys (inl h) = inl h
  any_left P (x ∷ xs) ys (inr h) = inr (any_left P xs ys h)

  pub any_right : (P : X → Type 0) (xs ys : List X) → AnyOf P ys → AnyOf P (xs ++ ys)
  any_right P [] ys h = h
  any_right P (x ∷ xs) ys h = inr (any_right P xs ys h)

  -- one of those of which each has something
  pub any_of_all : (P Q : X → Type 0) (C : Type 0) (xs : List X) → ((x : X) → P x → Q x → C) → AllByRecursion P xs
      → AnyOf Q xs → C
  any_of_all P Q C [] f a h = absurd h
  any_of_all P Q C (x ∷ xs) f a (inl h) = f x a.0 h
  any_of_all P Q C (x ∷ xs) f a (inr h) = any_of_all P Q C xs f a.1 h

  -- where it is
  pub record AnyPlace (P : X → Type 0) (xs : List X) : Type 0 where
    pub place : ℕ
    pub x : X
    pub within : place < length xs
    pub there : slice_get xs place ≡ Some x
    pub has : P x

  pub any_place : (P : X → Type 0) (xs : List X) → AnyOf P xs → AnyPlace P xs
  any_place P [] h = absurd h
  any_place P (x ∷ xs) (inl h) = record { place = 0; x = x; within = omega arith; there = refl; has = h }
  any_place P (x ∷ xs) (inr h) =
      let later = any_place P xs h in
      record {
        place = suc later.place;
        x = later.x;
        within = omega (arith, later.within);
        there = later.there;
        has = later.has;
      }
