-- Contents that are sent to the places that a registry names, and the configuration at a registry's well-known place.
use Rattle.std.specs.Prelude.{◌≡◌, ◌⊎◌, ◌≢◌, ℕ, false, List, All, codes, Option, Some, None, Ok, Err}
use Rattle.url.specs.declared.error.ParseError.{ParseError}
use Rattle.url.specs.Parser.{parse_url}
use Rattle.url.specs.Parts.{Parts, nonempty_host, serialize}
use Rattle.warg_url.specs.Label.{label}
use Rattle.warg_url.specs.RegistryUrl.{ReadsAs, IsLocal, IsSafe, base_of}
use Rattle.warg_exchange.specs.declared.exchange.Method.{Method}
use Rattle.warg_exchange.specs.declared.exchange.Request.{Request}
use Rattle.warg_exchange.specs.declared.exchange.Reply.{Reply}
use Rattle.warg_exchange.specs.Body.{BodyFault, Meaning, Unexpected, NoHash}
use Rattle.warg_exchange.specs.Replies.{is_success, refusal_in, well_known_says}
use Rattle.warg_exchange.specs.Requests.{upload_request}
use Rattle.warg_request.specs.declared.upload.UploadError.TheVariants as unsent
use Rattle.warg_request.specs.Uploading.{upload_method, IsUploadHeader, IsUploadFault}
use Rattle.warg_api.specs.Link.{Asked, unanswered}
use Rattle.warg_api.specs.Calls.{Asks}
use Rattle.warg_api.specs.declared.error.ClientError.{ClientError}
use Rattle.warg_api.specs.declared.error.ClientError.TheVariants as error
use Rattle.warg_api.specs.declared.error.Other.TheVariants as other

-- what is to be sent: by this method, to this place, with these headers
pub record Upload : Type 0 where
  pub method : List ℕ
  pub url : List ℕ
  pub headers : List (List ℕ × List ℕ)
  pub content : List ℕ

abbrev pub upload : List ℕ → List ℕ → List (List ℕ × List ℕ) → List ℕ → Upload
upload method url headers content = record { method = method; url = url; headers = headers; content = content }

-- the request that sends it, where the place's text is read with the registry's URL as its base
pub record Sends (base : Parts) (u : Upload) (request : Request) : Type 0 where
  pub method : Method
  pub url : Parts
  pub named : upload_method u.method ≡ Some method
  pub reads : parse_url (Some base) u.url ≡ Ok url
  pub headers : All IsUploadHeader u.headers
  pub is : request ≡ upload_request method (serialize url) u.headers u.content

-- why nothing can be sent: the place's text is no URL; the method is none of an upload; or a header is none
abbrev pub IsUnsendable : Parts → Upload → ClientError → Type 0
IsUnsendable base u (error.Other other.BadUrl) = (e : ParseError) × (parse_url (Some base) u.url ≡ Err e)
IsUnsendable base u (error.InvalidHttpMethod text) = IsUploadFault (unsent.Method text) u.method u.headers
IsUnsendable base u (error.InvalidHttpHeader name value) = IsUploadFault (unsent.Header name value) u.method u.headers
IsUnsendable base u error.Memory = Unit {0}
IsUnsendable base u e = ⊥

-- what a reply that is no success tells
abbrev pub IsRefusal : ClientError → Reply → Type 0
IsRefusal (error.Package refused) reply = refusal_in reply ≡ Ok refused.error
IsRefusal (error.UnexpectedResponse status message) reply =
    (reply.status ≡ status) × (refusal_in reply ≡ Err Unexpected)
IsRefusal (error.Hash text) reply = refusal_in reply ≡ Err (NoHash text)
IsRefusal e reply = ⊥

-- a reply is no success, and tells this; or memory ran out
abbrev pub IsUnacknowledged : ClientError → Reply → Type 0
IsUnacknowledged error.Memory reply = Unit {0}
IsUnacknowledged e reply = (is_success reply.status ≡ false) × IsRefusal e reply

-- why what was sent is not taken: no reply came; memory ran out; or the reply is no success
abbrev pub IsUntaken : {T : Type 0} → ClientError → (T → Asked → T → Type 0) → T → Request → T → Type 0
IsUntaken error.LinkFault Steps old request new = Steps old (unanswered request) new
IsUntaken error.Memory Steps old request new = (new ≡ old) ⊎ Asks Steps old request new (λ reply. Unit {0})
IsUntaken e Steps old request new = Asks Steps old request new (IsUnacknowledged e)

-- why an upload fails
abbrev pub IsUploadFailure : {T : Type 0} → Parts → Upload → ClientError → (T → Asked → T → Type 0) → T → T → Type 0
IsUploadFailure base u e Steps old new =
    (IsUnsendable base u e × (new ≡ old))
    ⊎ ((request : Request) × Sends base u request × IsUntaken e Steps old request new)

-- ---- the configuration

-- the URL that a configuration gives, where it gives one
abbrev pub Gives : Meaning (Option (List ℕ)) → Option Parts → Type 0
Gives said None = said ≡ Ok None
Gives said (Some url) = (text : List ℕ) × (read : Parts)
    × (said ≡ Ok (Some text)) × ReadsAs text (Ok read) × IsSafe read × (url ≡ base_of read)

-- a text is no URL, or that of a place where no registry is reached
abbrev pub IsNoRegistry : List ℕ → Type 0
IsNoRegistry text =
    ((e : ParseError) × ReadsAs text (Err e))
    ⊎ ((read : Parts) × ReadsAs text (Ok read) × (read.scheme ≢ codes "https") × (read.scheme ≢ codes "http"))
    ⊎ ((read : Parts) × ReadsAs text (Ok read) × (read.scheme ≡ codes "http") × (IsLocal (nonempty_host read) → ⊥))

-- a success has another form; or it gives the URL of no registry; or memory ran out
abbrev pub IsNoConfig : Parts → ClientError → Reply → Type 0
IsNoConfig base (error.InvalidWellKnownConfig name) reply =
    (name ≡ label base) × (fault : BodyFault) × (well_known_says reply ≡ Err fault)
IsNoConfig base (error.Other other.BadUrl) reply =
    (text : List ℕ) × (well_known_says reply ≡ Ok (Some text)) × IsNoRegistry text
IsNoConfig base error.Memory reply = Unit {0}
IsNoConfig base e reply = ⊥

-- why no configuration is read: no reply came; or memory ran out; or the reply gives none that can be read
abbrev pub IsConfigFault : {T : Type 0} → Parts → ClientError → (T → Asked → T → Type 0) → T → Request → T → Type 0
IsConfigFault base error.LinkFault Steps old request new = Steps old (unanswered request) new
IsConfigFault base error.Memory Steps old request new =
    (new ≡ old) ⊎ Asks Steps old request new (λ reply. Unit {0})
IsConfigFault base e Steps old request new = Asks Steps old request new (IsNoConfig base e)
