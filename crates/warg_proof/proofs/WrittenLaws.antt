-- Bytes that are written of values as they are kept.
use Rattle.std.proofs.Common.{◌≡◌, ℕ, List, [], ◌∷◌, ◌++◌, length, map, refl, sym, ap, ◌∙◌}
use Rattle.std.proofs.lemmas.List.{length-map}
use Rattle.std.specs.List.{flat_map}
use Rattle.std.specs.Int.{w32, to_be_bytes}
use Rattle.warg_proof.specs.LogProofs.{counted}

texts_seen : {X Y : Type 0} (seen : X → Y) (text : Y → List ℕ) (xs : List X) → flat_map (λ x. text (seen x)) xs ≡ flat_map text (map seen xs)
texts_seen seen text [] = refl
texts_seen seen text (x ∷ xs) = ap (λ t. text (seen x) ++ t) (texts_seen seen text xs)

-- a count and values, each written as it is seen
pub counted_seen : {X Y : Type 0} (seen : X → Y) (text : Y → List ℕ) (xs : List X) → counted (λ x. text (seen x)) xs ≡ counted text (map seen xs)
counted_seen seen text xs =
    ap (λ t. to_be_bytes w32 (length xs) ++ t) (texts_seen seen text xs)
    ∙ ap (λ n. to_be_bytes w32 n ++ flat_map text (map seen xs)) (sym (length-map xs seen))
