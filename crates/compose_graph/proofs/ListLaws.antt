-- Facts of tests, and of lists that are filtered, mapped and added to.
use Rattle.std.proofs.Common.{◌≡◌, ◌∙◌, sym, refl, ℕ, Bool, true, false, cond, List, [], ◌∷◌, ◌++◌, map, Option, Some, None}
use Rattle.std.specs.Prelude.{◌==◌, filter, find}
use Rattle.std.specs.Option.{option_or}
use Rattle.std.specs.List.{AllByRecursion}
use Rattle.std.specs.Cmp.{unsigned_ties}
use Rattle.std.specs.Ordering.{is_eq, nat_cmp}
use Rattle.std.specs.declared.cmp.Ordering.{Ordering}
use Rattle.std.specs.declared.cmp.Ordering.TheVariants.{Less, Equal, Greater}
use Rattle.std.proofs.lemmas.Map.Lookups.{exact_unsigned}

pub equal_if : (o : Ordering) → is_eq o ≡ true → o ≡ Equal
equal_if Less e = absurd cc
equal_if Equal e = refl
equal_if Greater e = absurd cc

pub same_number : (a b : ℕ) → (a == b) ≡ true → a ≡ b
same_number a b e = exact_unsigned a b (equal_if (nat_cmp a b) (sym (unsigned_ties a b) ∙ e))

pub or_none : {X : Type 0} (o : Option X) → option_or o None ≡ o
or_none None = refl
or_none (Some x) = refl

module _ {X : Type 0} where
  pub find_skip : (test : X → Bool) (x : X) (b : Bool) (xs : List X) → test x ≡ false → find test (cond b (x ∷ xs) xs) ≡ find test xs
  find_skip test x true xs h = λ i. cond (h i) (Some x) (find test xs)
  find_skip test x false xs h = refl

  pub find_none : (test p : X → Bool) (xs : List X) → find test xs ≡ None → find test (filter p xs) ≡ None
  find_none test p [] e = refl
  find_none test p (x ∷ xs) e = one (test x) refl e (find_none test p xs)
    where
      one : (b : Bool) → test x ≡ b → cond b (Some x) (find test xs) ≡ None → (find test xs ≡ None → find test (filter p xs) ≡ None) → find test (filter p (x ∷ xs)) ≡ None
      one true h e rest = absurd cc
      one false h e rest = find_skip test x (p x) (filter p xs) h ∙ rest e

  pub all_push : (P : X → Type 0) (xs : List X) (x : X) → AllByRecursion P xs → P x → AllByRecursion P (xs ++ x ∷ [])
  all_push P [] x a h = (h, tt)
  all_push P (y ∷ xs) x a h = (a.0, all_push P xs x a.1 h)

  pub all_kept : (P : X → Type 0) (p : X → Bool) (xs : List X) → AllByRecursion P xs → AllByRecursion P (filter p xs)
  all_kept P p [] a = tt
  all_kept P p (x ∷ xs) a = one (p x) (all_kept P p xs a.1)
    where
      one : (b : Bool) → AllByRecursion P (filter p xs) → AllByRecursion P (cond b (x ∷ filter p xs) (filter p xs))
      one true rest = (a.0, rest)
      one false rest = rest

  pub all_weaker : (P Q : X → Type 0) → ((x : X) → P x → Q x) → (xs : List X) → AllByRecursion P xs → AllByRecursion Q xs
  all_weaker P Q f [] a = tt
  all_weaker P Q f (x ∷ xs) a = (f x a.0, all_weaker P Q f xs a.1)

  pub filter_mapped : {Y : Type 0} (f : X → Y) (p : Y → Bool) (xs : List X) → filter p (map f xs) ≡ map f (filter (λ x. p (f x)) xs)
  filter_mapped f p [] = refl
  filter_mapped f p (x ∷ xs) = one (p (f x)) (filter_mapped f p xs)
    where
      one : (b : Bool) → filter p (map f xs) ≡ map f (filter (λ x. p (f x)) xs) → cond b (f x ∷ filter p (map f xs)) (filter p (map f xs)) ≡ map f (cond b (x ∷ filter (λ x. p (f x)) xs) (filter (λ x. p (f x)) xs))
      one true rest = λ i. f x ∷ rest i
      one false rest = rest
