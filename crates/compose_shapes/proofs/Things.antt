-- Things among others, and lists of which all have a property.
use Rattle.std.proofs.Common.{◌≡◌, ◌⊎◌, inl, inr, ◌||◌, Bool, true, false, List, [], ◌∷◌, ◌++◌, map, refl, sym, ap, ◌∙◌}
use Rattle.std.specs.List.{AllByRecursion}
use Rattle.std.proofs.lemmas.Bool.{or_left, or_right}
use Rattle.std.proofs.lemmas.List.Folds.{list_any-append}
use Rattle.compose_left.specs.declared.spots.Thing.{Thing}
use Rattle.compose_left.specs.Origins.{same_thing}
use Rattle.compose_needs.specs.Mentioned.{has}
use Rattle.compose_needs.specs.ThingLaws.{same_things, same_itself}

-- ---- lists of which all have a property

module _ {X : Type 0} (P : X → Type 0) where
  pub front : (xs ys : List X) → AllByRecursion P (xs ++ ys) → AllByRecursion P xs
  front [] ys h = tt
  front (x ∷ xs) ys h = (h.0, front xs ys h.1)

  pub back : (xs ys : List X) → AllByRecursion P (xs ++ ys) → AllByRecursion P ys
  back [] ys h = h
  back (x ∷ xs) ys h = back xs ys h.1

  pub joined : (xs ys : List X) → AllByRecursion P xs → AllByRecursion P ys → AllByRecursion P (xs ++ ys)
  joined [] ys h k = k
  joined (x ∷ xs) ys h k = (h.0, joined xs ys h.1 k)

pub weaker : {X : Type 0} (P Q : X → Type 0) → ((x : X) → P x → Q x) → (xs : List X) → AllByRecursion P xs
    → AllByRecursion Q xs
weaker P Q w [] h = tt
weaker P Q w (x ∷ xs) h = (w x h.0, weaker P Q w xs h.1)

pub changed : {X Y : Type 0} (P : X → Type 0) (Q : Y → Type 0) (f : X → Y) → ((x : X) → P x → Q (f x)) → (xs : List X)
    → AllByRecursion P xs → AllByRecursion Q (map f xs)
changed P Q f w [] h = tt
changed P Q f w (x ∷ xs) h = (w x h.0, changed P Q f w xs h.1)

pub of_both : {X : Type 0} (P Q R : X → Type 0) → ((x : X) → P x → Q x → R x) → (xs : List X) → AllByRecursion P xs
    → AllByRecursion Q xs → AllByRecursion R xs
of_both P Q R w [] h k = tt
of_both P Q R w (x ∷ xs) h k = (w x h.0 k.0, of_both P Q R w xs h.1 k.1)

-- ---- things among others

either : (a b : Bool) → a || b ≡ true → (a ≡ true) ⊎ (b ≡ true)
either true b h = inl refl
either false b h = inr h

pub has_either : (xs ys : List Thing) (t : Thing) → has (xs ++ ys) t ≡ true → (has xs t ≡ true) ⊎ (has ys t ≡ true)
has_either xs ys t h = either (has xs t) (has ys t) (sym (list_any-append (λ m. same_thing m t) xs ys) ∙ h)

pub has_first : (xs ys : List Thing) (t : Thing) → has xs t ≡ true → has (xs ++ ys) t ≡ true
has_first xs ys t h = list_any-append (λ m. same_thing m t) xs ys ∙ or_left (has xs t) (has ys t) h

pub has_then : (xs ys : List Thing) (t : Thing) → has ys t ≡ true → has (xs ++ ys) t ≡ true
has_then xs ys t h = list_any-append (λ m. same_thing m t) xs ys ∙ or_right (has xs t) (has ys t) h

pub has_itself : (x : Thing) (xs : List Thing) → has (x ∷ xs) x ≡ true
has_itself x xs = or_left (same_thing x x) (has xs x) (same_itself x)

pub has_image : (f : Thing → Thing) (xs : List Thing) (t : Thing) → has xs t ≡ true → has (map f xs) (f t) ≡ true
has_image f [] t h = absurd cc
has_image f (x ∷ xs) t h = go (has_image f xs t) (either (same_thing x t) (has xs t) h)
  where
    go : (has xs t ≡ true → has (map f xs) (f t) ≡ true) → (same_thing x t ≡ true) ⊎ (has xs t ≡ true)
        → has (f x ∷ map f xs) (f t) ≡ true
    go rest (inl e) = ap (λ u. has (f u ∷ map f xs) (f t)) (same_things x t e) ∙ has_itself (f t) (map f xs)
    go rest (inr e) = or_right (same_thing (f x) (f t)) (has (map f xs) (f t)) (rest e)
