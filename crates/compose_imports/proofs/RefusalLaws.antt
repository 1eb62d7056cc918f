-- What a refused call hands on.
use Rattle.std.proofs.Common.{◌≡◌, ◌∙◌, ℕ, Result, Err, sym, ap}
use Rattle.std.specs.Prelude.{IsErrAnd}
use Rattle.std.proofs.lemmas.Result.{err_from_is_err_and}
use Rattle.comp_format.specs.declared.error.EncodeError.{EncodeError}
use Rattle.comp_format.specs.declared.error.EncodeError.TheVariants as encode_error

abbrev failed : {A : Type 0} → EncodeError → Result A EncodeError
failed x = Err x

err_is : {A : Type 0} (x y : EncodeError) → failed {A = A} x ≡ failed y → x ≡ y
err_is x y e = cc

-- the error of a step is that of the call
pub told : {A B : Type 0} (r : Result A EncodeError) (x : EncodeError) (n : ℕ) → IsErrAnd r (λ y. y ≡ x)
    → r ≡ Err (encode_error.TooLarge n) → failed {A = B} x ≡ failed (encode_error.TooLarge n)
told r x n h e =
    let p = err_from_is_err_and r h in
    let same : p.0 ≡ encode_error.TooLarge n = err_is p.0 (encode_error.TooLarge n) (sym p.1 ∙ e) in
    ap (λ (y : EncodeError). failed y) (sym p.2 ∙ same)
