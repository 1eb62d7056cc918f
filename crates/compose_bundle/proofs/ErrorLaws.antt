-- Errors of calls below, as those of bundling.
use Rattle.std.proofs.Common.{◌≡◌, ℕ, List, Result, Err, subst}
use Rattle.comp_format.specs.declared.error.EncodeError.{EncodeError}
use Rattle.comp_format.specs.declared.error.EncodeError.TheVariants as encode
use Rattle.comp_shape.specs.Refusal.{IsUnread}
use Rattle.comp_shape.specs.declared.error.ShapeError.{ShapeError}
use Rattle.comp_shape.specs.declared.error.ShapeError.TheVariants as shape
use Rattle.compose_bundle.specs.Errors.{of_encode, of_shape}
use Rattle.compose_bundle.specs.Refusing.{IsBad}
use Rattle.compose_bundle.specs.declared.error.BundleError.{BundleError}
use Rattle.compose_bundle.specs.declared.error.BundleError.TheVariants as error

-- which refusal of bytes is told
pub bad_of : (bytes : List ℕ) (e told : ShapeError) → IsUnread e bytes → of_shape e ≡ error.BadComponent told
    → IsBad told bytes
bad_of bytes (shape.Form at) told cause is =
    let same : shape.Form at ≡ told = cc in
    subst (λ e. IsBad e bytes) same (record { cause = cause; tells = λ e. cc })
bad_of bytes (shape.NotCarried at) told cause is =
    let same : shape.NotCarried at ≡ told = cc in
    subst (λ e. IsBad e bytes) same (record { cause = cause; tells = λ e. cc })
bad_of bytes (shape.Index at) told cause is = absurd cause
bad_of bytes (shape.DoesNotFit at) told cause is = absurd cause
bad_of bytes shape.TooDeep told cause is = absurd cause
bad_of bytes shape.TooBig told cause is = absurd cause
bad_of bytes shape.Memory told cause is = absurd cc

pub unread_is_no_number : (e : ShapeError) (n : ℕ) → of_shape e ≡ error.TooLarge n → ⊥
unread_is_no_number (shape.Form at) n is = cc
unread_is_no_number (shape.NotCarried at) n is = cc
unread_is_no_number (shape.Index at) n is = cc
unread_is_no_number (shape.DoesNotFit at) n is = cc
unread_is_no_number shape.TooDeep n is = cc
unread_is_no_number shape.TooBig n is = cc
unread_is_no_number shape.Memory n is = cc

pub number_of : (e : EncodeError) (n : ℕ) → of_encode e ≡ error.TooLarge n → e ≡ encode.TooLarge n
number_of (encode.TooLarge m) n is = cc
number_of encode.Memory n is = absurd cc

pub encode_is_not_bad : (e : EncodeError) (told : ShapeError) → of_encode e ≡ error.BadComponent told → ⊥
encode_is_not_bad (encode.TooLarge m) told is = cc
encode_is_not_bad encode.Memory told is = cc

abbrev pub failed : {A : Type 0} → EncodeError → Result A EncodeError
failed e = Err e

pub encode_is : {A : Type 0} (e f : EncodeError) → failed {A = A} e ≡ failed f → e ≡ f
encode_is e f is = cc

abbrev pub refused : {A : Type 0} → BundleError → Result A BundleError
refused e = Err e

pub error_is : {A : Type 0} (e f : BundleError) → refused {A = A} e ≡ refused f → e ≡ f
error_is e f is = cc
