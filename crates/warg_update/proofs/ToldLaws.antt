-- What holds of an error as an update tells it.
use Rattle.std.proofs.Common.{◌≡◌, Bool, true, false, refl}
use Rattle.std.specs.Prelude.{if◌then◌else◌}
use Rattle.warg_update.specs.declared.error.UpdateError.{UpdateError}

pub told : (P : UpdateError → Type 0) (b : Bool) (x y : UpdateError) → (b ≡ true → P x) → (b ≡ false → P y) → P (if b then x else y)
told P true x y memory other = memory refl
told P false x y memory other = other refl
