-- A header gives one hint at most.
use Rattle.std.proofs.Common.{◌≡◌, ◌++◌, ◌∷◌, [], List, ℕ, refl, sym, ◌∙◌, ap}
use Rattle.std.specs.Prelude.{codes}
use Rattle.std.specs.Str.Iter.{HasSubslice}
use Rattle.warg_hint.specs.Hint.{IsHint}

head-is : (x y : ℕ) (xs ys : List ℕ) → x ∷ xs ≡ y ∷ ys → x ≡ y
head-is x y xs ys e = cc e

tail-is : (x y : ℕ) (xs ys : List ℕ) → x ∷ xs ≡ y ∷ ys → xs ≡ ys
tail-is x y xs ys e = cc e

-- a text lacks what it lacks behind its first byte
rest-lacks : (x : ℕ) (xs : List ℕ) → ¬ HasSubslice (x ∷ xs) (codes "=") → ¬ HasSubslice xs (codes "=")
rest-lacks x xs lacks has = lacks (x ∷ has.0, has.1, ap (λ (l : List ℕ). x ∷ l) has.2)

same-front : (xs ys before after : List ℕ) → ¬ HasSubslice xs (codes "=") → ¬ HasSubslice ys (codes "=") → xs ++ (codes "=" ++ before) ≡ ys ++ (codes "=" ++ after) → xs ≡ ys
same-front [] [] before after lacks none e = refl
same-front [] (y ∷ ys) before after lacks none e = absurd (none ([], ys, ap (λ (n : ℕ). n ∷ ys) (sym (head-is _ y before (ys ++ (codes "=" ++ after)) e))))
same-front (x ∷ xs) [] before after lacks none e = absurd (lacks ([], xs, ap (λ (n : ℕ). n ∷ xs) (head-is x _ (xs ++ (codes "=" ++ before)) after e)))
same-front (x ∷ xs) (y ∷ ys) before after lacks none e =
    ap (λ (n : ℕ). n ∷ xs) (head-is x y (xs ++ (codes "=" ++ before)) (ys ++ (codes "=" ++ after)) e)
    ∙ ap (λ (l : List ℕ). y ∷ l) (same-front xs ys before after (rest-lacks x xs lacks) (rest-lacks y ys none) (tail-is x y (xs ++ (codes "=" ++ before)) (ys ++ (codes "=" ++ after)) e))

pub one-namespace : (value n m r q : List ℕ) → IsHint value n r → IsHint value m q → n ≡ m
one-namespace value n m r q one other = same-front n m r q one.first other.first (sym one.parts ∙ other.parts)
