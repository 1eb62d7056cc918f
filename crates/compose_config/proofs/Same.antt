-- Texts are seen as themselves.
use Rattle.std.proofs.Common.{◌≡◌, ℕ, List, [], ◌∷◌, map, Option, Some, None, option_map, refl, ap}

pub option_same : (o : Option (List ℕ)) → option_map (λ t. t) o ≡ o
option_same None = refl
option_same (Some t) = refl

pub list_same : (xs : List (List ℕ)) → map (λ t. t) xs ≡ xs
list_same [] = refl
list_same (x ∷ xs) = ap (λ (ys : List (List ℕ)). x ∷ ys) (list_same xs)
