-- Errors that are handed on.
use Rattle.std.proofs.Common.{◌≡◌, Result, Err}
use Rattle.comp_format.specs.declared.error.EncodeError.{EncodeError}

abbrev pub failed : {A : Type 0} → EncodeError → Result A EncodeError
failed x = Err x

pub err_is : {A : Type 0} (x y : EncodeError) → failed {A = A} x ≡ failed y → x ≡ y
err_is x y e = cc
