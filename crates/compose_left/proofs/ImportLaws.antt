-- The number of an origin tells the left import of which it is.
use Rattle.std.proofs.Common.{◌≡◌, ℕ, suc, ◌+◌, ◌*◌, ◌<◌, Bool, true, false, cond, List, [], ◌∷◌, Option, Some, None, refl, sym, ap, ◌∙◌, arith}
use Rattle.std.specs.Prelude.{◌||◌, ◌==◌, ◌/◌, ◌%◌, slice_get, option_and_then}
use Rattle.std.specs.List.{list_any}
use Rattle.std.proofs.lemmas.Bool.{ne_eqb, eq-eqb}
use Rattle.std.proofs.lemmas.Nat.{mod-mul-add, div-mul-add}
use Rattle.compose_left.specs.declared.origin.Origin.{Origin}
use Rattle.compose_left.specs.declared.origin.Origin.TheVariants as origins
use Rattle.compose_left.specs.Origins.{is_made, same_origin, place_in, number_in, import_at, import_of}
use Rattle.compose_left.specs.Numbers.{HasNumber}
use Rattle.compose_left.proofs.OnceLaws.{same_is}

unmade : (o c : Origin) → same_origin o c ≡ true → is_made c ≡ false → is_made o ≡ false
unmade (origins.Left n x) c h r = refl
unmade (origins.Given n x) c h r = refl
unmade (origins.Made i n) (origins.Left m y) h r = absurd cc
unmade (origins.Made i n) (origins.Given m y) h r = absurd cc
unmade (origins.Made i n) (origins.Made m y) h r = absurd cc

place_there : (os : List Origin) (o : Origin) → is_made o ≡ false → list_any (λ p. same_origin p o) os ≡ true → slice_get os (place_in os o) ≡ Some o
place_there [] o m e = absurd cc
place_there (p ∷ os) o m e = one (same_origin p o) refl e (place_there os o m)
  where
    one : (b : Bool) → same_origin p o ≡ b → (b || list_any (λ p. same_origin p o) os) ≡ true → (list_any (λ p. same_origin p o) os ≡ true → slice_get os (place_in os o) ≡ Some o) → slice_get (p ∷ os) (cond b 0 (suc (place_in os o))) ≡ Some o
    one true h e rest = ap (λ q. Some q) (same_is p o (unmade p o h m) m h)
    one false h e rest = rest e

-- what is in the table is found by its number
in_table : (k : ℕ) (os : List Origin) (o : Origin) → is_made o ≡ false → list_any (λ p. same_origin p o) os ≡ true → import_at k os (place_in os o * suc k + k) ≡ import_of o
in_table k os o m e =
    let last : k < suc k = omega arith in
    ap (λ t. cond (t == k) (option_and_then import_of (slice_get os ((place_in os o * suc k + k) / suc k))) None) (mod-mul-add (place_in os o) (suc k) k last)
    ∙ ap (λ b. cond b (option_and_then import_of (slice_get os ((place_in os o * suc k + k) / suc k))) None) (eq-eqb k k refl)
    ∙ ap (λ p. option_and_then import_of (slice_get os p)) (div-mul-add (place_in os o) (suc k) k last)
    ∙ ap (option_and_then import_of) (place_there os o m e)

pub told : (instances : ℕ) (os : List Origin) (o : Origin) → HasNumber instances os o → import_at instances os (number_in instances os o) ≡ import_of o
told k os (origins.Left n x) h = in_table k os (origins.Left n x) refl h
told k os (origins.Given i x) h = in_table k os (origins.Given i x) refl h
told k os (origins.Made i n) h =
    let less : i < suc k = omega (arith, h) in
    ap (λ t. cond (t == k) (option_and_then import_of (slice_get os ((n * suc k + i) / suc k))) None) (mod-mul-add n (suc k) i less)
    ∙ ap (λ b. cond b (option_and_then import_of (slice_get os ((n * suc k + i) / suc k))) None) (ne_eqb i k (λ e. absurd (omega (arith, h, e))))
