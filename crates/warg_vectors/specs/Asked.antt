-- What a request asks: by its method, its URL and its body, as clients make requests.
use Rattle.std.specs.Prelude.{ℕ, List, ◌++◌, if◌then◌else◌, codes, bytes_eq, find, Option, Some, None, option_map, Ok, Err}
use Rattle.hex.specs.Hex.{encode_lower}
use Rattle.http_header.specs.FieldValue.{FieldValue}
use Rattle.serde_json.specs.Data.{Data}
use Rattle.warg_values.specs.Reading.{◌>>=◌}
use Rattle.warg_hash.specs.Hash.{digest_of}
use Rattle.warg_names.specs.Cut.{behind}
use Rattle.warg_exchange.specs.declared.exchange.Request.{Request}
use Rattle.warg_exchange.specs.declared.exchange.Method.{Method}
use Rattle.warg_exchange.specs.declared.exchange.Method.TheVariants.{Get, Post, Put}
use Rattle.warg_exchange.specs.Body.{Meaning, Unexpected, required, member_as, optional_as, number_in, text_in, nullable_in, list_in, hashed_in}
use Rattle.warg_exchange.specs.Replies.{json_of}

-- what is asked of one registry
pub data RegistryAsked : Type 0 where
  Checkpoint : RegistryAsked
  Logs : ℕ → Option (List ℕ) → List (List ℕ × Option (List ℕ)) → RegistryAsked
  Inclusion : ℕ → List ℕ → RegistryAsked
  Consistency : ℕ → ℕ → RegistryAsked

-- what is asked
pub data Asked : Type 0 where
  OfRegistry : RegistryAsked → Asked
  Sources : List ℕ → Asked
  Content : List ℕ → Asked
  Other : Asked

-- where the registries are
abbrev pub home : List ℕ
home = codes "https://home.test/"

-- the URL of a content
abbrev pub content_url : List ℕ → List ℕ
content_url digest = home ++ (codes "content/sha256/" ++ encode_lower digest)

-- the header by which a request names a registry
abbrev pub registry_header : Request → Option FieldValue
registry_header request = option_map (λ h. h.1) (find (λ h. bytes_eq h.0 (codes "warg-registry")) request.headers)

-- the registry that a request names, none where it means the home registry
abbrev pub registry_of_request : Request → Option (List ℕ)
registry_of_request request = option_map (λ v. v.bytes) (registry_header request)

-- ---- without a body

abbrev pub content_asked : Option (List ℕ) → Asked
content_asked (Some digest) = Content digest
content_asked None = Other

abbrev pub sources_asked : Option (List ℕ) → Asked
sources_asked (Some digest) = Sources digest
sources_asked None = Other

abbrev pub digest_asked : Option (List ℕ) → Option (List ℕ) → Asked
digest_asked (Some digits) text = content_asked (digest_of (codes "sha256:" ++ digits))
digest_asked None (Some text) = sources_asked (digest_of text)
digest_asked None None = Other

abbrev pub path_asked : List ℕ → Asked
path_asked path =
    if bytes_eq path (codes "v1/fetch/checkpoint") then OfRegistry Checkpoint
    else digest_asked (behind (codes "content/sha256/") path) (behind (codes "v1/content/") path)

-- ---- with a JSON value

unfoldable pub logs_in : Data → Meaning RegistryAsked
logs_in d = do
  log_length ← member_as (codes "logLength") number_in d
  operator ← optional_as (codes "operator") text_in d
  packages ← member_as (codes "packages") (hashed_in (nullable_in text_in)) d
  Ok (Logs log_length operator packages)

unfoldable pub inclusion_in : Data → Meaning RegistryAsked
inclusion_in d = do
  leafs ← member_as (codes "leafs") (list_in number_in) d
  log_length ← member_as (codes "logLength") number_in d
  Ok (Inclusion log_length leafs)

unfoldable pub consistency_in : Data → Meaning RegistryAsked
consistency_in d = do
  from ← member_as (codes "from") number_in d
  to ← member_as (codes "to") number_in d
  Ok (Consistency from to)

-- what a value asks at one of these paths
abbrev pub value_asked : List ℕ → Data → Meaning RegistryAsked
value_asked path d =
    if bytes_eq path (codes "v1/fetch/logs") then logs_in d
    else if bytes_eq path (codes "v1/proof/inclusion") then inclusion_in d
    else if bytes_eq path (codes "v1/proof/consistency") then consistency_in d
    else Err Unexpected

abbrev pub body_asked : List ℕ → List ℕ → Meaning RegistryAsked
body_asked path body = required (json_of body) >>= value_asked path

-- a value of another form, and one at another path, asks nothing that is answered
abbrev pub meant_asked : Meaning RegistryAsked → Asked
meant_asked (Ok asked) = OfRegistry asked
meant_asked (Err fault) = Other

-- ---- a request

abbrev pub asked_at : Method → Option (List ℕ) → List ℕ → Asked
asked_at method None body = Other
asked_at Get (Some path) body = path_asked path
asked_at Post (Some path) body = meant_asked (body_asked path body)
asked_at Put (Some path) body = Other

-- what a request asks
abbrev pub asked_by : Request → Asked
asked_by request = asked_at request.method (behind home request.url) request.body
