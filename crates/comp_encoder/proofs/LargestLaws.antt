-- What has a written form, where its largest number is small.
use Rattle.std.proofs.Common.{◌≡◌, ℕ, max, ◌<◌, ◌^◌, List, [], ◌∷◌, ◌++◌, length, Option, Some, None, All, refl, ap, ◌∙◌, arith}
use Rattle.std.specs.Prelude.{IfSome}
use Rattle.std.specs.List.{AllByRecursion}
use Rattle.std.specs.Str.{IsUtf8}
use Rattle.std.proofs.lemmas.List.Elements.{All-from_recursion, recursion_from_All}
use Rattle.comp_format.specs.declared.types.TypeRef.{TypeRef}
use Rattle.comp_format.specs.declared.types.TypeRef.TheVariants as description
use Rattle.comp_format.specs.declared.types.Arg.{Arg}
use Rattle.comp_format.specs.Fits.{FitsType, FitsArg}
use Rattle.comp_encoder.specs.Largest.{largest_among, optional_largest, description_largest, arg_largest}

-- of one value more
pub largest_push : {X : Type 0} (one : X → ℕ) (xs : List X) (x : X) → largest_among one (xs ++ x ∷ []) ≡ max (largest_among one xs) (one x)
largest_push one [] x = omega arith
largest_push one (y ∷ xs) x = ap (max (one y)) (largest_push one xs x) ∙ omega arith

-- of values without numbers
pub none_among : {X : Type 0} (xs : List X) → largest_among (λ _. 0) xs ≡ 0
none_among [] = refl
none_among (x ∷ xs) = omega (arith, none_among xs)

-- values that each have a form, and are small together
pub each_fits : {X : Type 0} (one : X → ℕ) (P Fits : X → Type 0) → ((x : X) → P x → one x < 2 ^ 32 → Fits x) → (xs : List X) → All P xs → largest_among one xs < 2 ^ 32 → All Fits xs
each_fits one P Fits fits xs formed small = All-from_recursion Fits xs (each xs (recursion_from_All P xs formed) small)
  where
    each : (ys : List _) → AllByRecursion P ys → largest_among one ys < 2 ^ 32 → AllByRecursion Fits ys
    each [] h le = tt
    each (y ∷ ys) h le = (fits y h.0 (omega (arith, le)), each ys h.1 (omega (arith, le)))

pub optional_fits : {X : Type 0} (one : X → ℕ) (Fits : X → Type 0) → ((x : X) → one x < 2 ^ 32 → Fits x) → (o : Option X) → optional_largest one o < 2 ^ 32 → IfSome o Fits
optional_fits one Fits fits None small = tt
optional_fits one Fits fits (Some x) small = fits x small

pub description_fits : (d : TypeRef) → description_largest d < 2 ^ 32 → FitsType d
description_fits (description.Module i) small = small
description_fits (description.Func i) small = small
description_fits (description.TyEqual i) small = small
description_fits description.TyFresh small = tt
description_fits (description.Component i) small = small
description_fits (description.Instance i) small = small

pub args_fit : (args : List Arg) → All (λ arg. 0 < length arg.name) args → All (λ arg. IsUtf8 arg.name) args → largest_among arg_largest args < 2 ^ 32 → All FitsArg args
args_fit args named texts small =
    each_fits arg_largest (λ arg. (0 < length arg.name) × IsUtf8 arg.name) FitsArg
    (λ arg h le. record { name = record { is_text = h.1; not_empty = h.0; short = omega (arith, le) }; index = omega (arith, le) })
    args (λ k d lt. (named k d lt, texts k d lt)) small
