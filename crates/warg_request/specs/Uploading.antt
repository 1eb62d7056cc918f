-- The requests by which contents are sent to the places that a registry names.
use Rattle.std.specs.Prelude.{◌≡◌, ◌⊎◌, ℕ, if◌then◌else◌, List, ◌∷◌, ◌++◌, All, codes, bytes_eq, Option, Some, None}
use Rattle.http_header.specs.FieldValue.{IsFieldValue}
use Rattle.warg_exchange.specs.declared.exchange.Method.{Method}
use Rattle.warg_exchange.specs.declared.exchange.Method.TheVariants.{Post, Put}
use Rattle.warg_request.specs.declared.upload.UploadError.{UploadError}
use Rattle.warg_request.specs.declared.upload.UploadError.TheVariants as upload

-- the method that a text names, where it is one by which a content is sent (RFC 9110, sections 9.3.3 and 9.3.4)
abbrev pub upload_method : List ℕ → Option Method
upload_method text =
    if bytes_eq text (codes "POST") then Some Post
    else if bytes_eq text (codes "PUT") then Some Put
    else None

-- a header that a registry may ask to be sent with a content: one of two names, with the value of a header
abbrev pub IsUploadName : List ℕ → Type 0
IsUploadName name = (name ≡ codes "authorization") ⊎ (name ≡ codes "content-type")

abbrev pub IsUploadHeader : List ℕ × List ℕ → Type 0
IsUploadHeader h = IsUploadName h.0 × IsFieldValue h.1

-- the first header that may not be sent
pub record IsFirstBad (headers : List (List ℕ × List ℕ)) (name value : List ℕ) : Type 0 where
  pub before : List (List ℕ × List ℕ)
  pub after : List (List ℕ × List ℕ)
  pub stands : headers ≡ before ++ (name, value) ∷ after
  pub earlier : All IsUploadHeader before
  pub bad : IsUploadHeader (name, value) → ⊥

-- why a content can't be sent by such a method with such headers
abbrev pub IsUploadFault : UploadError → List ℕ → List (List ℕ × List ℕ) → Type 0
IsUploadFault (upload.Method text) method headers = (text ≡ method) × (upload_method method ≡ None)
IsUploadFault (upload.Header name value) method headers = IsFirstBad headers name value
IsUploadFault upload.Memory method headers = Unit {0}
