-- What is read of a request is what it has.
use Rattle.std.proofs.Common.{◌≡◌, ◌∷◌, [], List, Option, Some, None, refl, map}
use Rattle.std.specs.Prelude.{option_map}

pub option-same : {X : Type 0} (o : Option X) → option_map (λ x. x) o ≡ o
option-same None = refl
option-same (Some x) = refl

pub entries-same : {K X : Type 0} (es : List (K × Option X)) → map (λ (e : K × Option X). (e.0, option_map (λ x. x) e.1)) es ≡ es
entries-same [] = refl
entries-same (e ∷ es) = λ k. (e.0, option-same e.1 k) ∷ entries-same es k
