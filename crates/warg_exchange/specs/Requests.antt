-- The requests of the calls of Warg registries, as the Rust crate `warg-api` has them in its module `v1`. A body is
-- compact JSON (RFC 8259) whose members ascend by their names' bytes.
use Rattle.std.specs.Prelude.{ℕ, List, [], ◌∷◌, ◌++◌, codes, map, fold, Option, Some, None, option_map}
use Rattle.base64.specs.Engines.{standard}
use Rattle.base64.specs.GeneralPurpose.{encode_of}
use Rattle.http_header.specs.FieldValue.{FieldValue, plain_value}
use Rattle.serde_json.specs.Data.{Data, null, string, number, unsigned, array, object, no_members, member, put}
use Rattle.serde_json.specs.View.{items_of}
use Rattle.serde_json.specs.Written.{compact_text}
use Rattle.warg_hash.specs.Hash.{hash_text}
use Rattle.warg_record.specs.Envelope.{Signed}
use Rattle.warg_exchange.specs.declared.checkpoint.Checkpoint.{Checkpoint}
use Rattle.warg_exchange.specs.declared.checkpoint.SignedCheckpoint.{SignedCheckpoint}
use Rattle.warg_exchange.specs.declared.exchange.Method.{Method}
use Rattle.warg_exchange.specs.declared.exchange.Method.TheVariants.{Get, Post}
use Rattle.warg_exchange.specs.declared.exchange.Request.{Request}

-- who asks which registry: the text of the URL before each path, the client's token, and the registry's name unless it
-- is the one at the URL
pub record Asker : Type 0 where
  pub base : List ℕ
  pub token : Option (List ℕ)
  pub registry : Option (List ℕ)

abbrev pub optional_header : List ℕ → Option (List ℕ) → List (List ℕ × FieldValue)
optional_header name None = []
optional_header name (Some value) = (name, plain_value value) ∷ []

-- a token as a bearer's (RFC 6750, section 2.1)
abbrev pub bearer : Option (List ℕ) → Option (List ℕ)
bearer token = option_map (λ t. codes "Bearer " ++ t) token

-- the registry's name, and the token
abbrev pub who : Asker → List (List ℕ × FieldValue)
who a =
    optional_header (codes "warg-registry") a.registry ++ optional_header (codes "authorization") (bearer a.token)

abbrev pub get_request : Asker → List ℕ → Request
get_request a path = record { method = Get; url = a.base ++ path; headers = who a; body = [] }

abbrev pub post_request : Asker → List ℕ → Data → Request
post_request a path body = record {
  method = Post;
  url = a.base ++ path;
  headers = who a ++ (codes "content-type", plain_value (codes "application/json")) ∷ [];
  body = compact_text body;
}

-- what a URL names, asked for without any header
abbrev pub plain_get : List ℕ → Request
plain_get url = record { method = Get; url = url; headers = []; body = [] }

-- ---- bodies

abbrev pub whole_number : ℕ → Data
whole_number n = number (unsigned n)

abbrev pub contents_data : Checkpoint → Data
contents_data c = object (
    member (codes "logLength") (whole_number c.log_length) (
    member (codes "logRoot") (string (hash_text c.log_root)) (
    member (codes "mapRoot") (string (hash_text c.map_root)) (
    member (codes "timestamp") (whole_number c.timestamp) no_members))))

-- a signed checkpoint
abbrev pub checkpoint_data : SignedCheckpoint → Data
checkpoint_data c = object (
    member (codes "contents") (contents_data c.contents) (
    member (codes "keyId") (string (hash_text c.key_id)) (
    member (codes "signature") (string c.signature) no_members)))

abbrev pub token_data : Option (List ℕ) → Data
token_data None = null
token_data (Some token) = string token

-- a token for each log, by its id's text
abbrev pub tokens_data : List (List ℕ × Option (List ℕ)) → Data
tokens_data logs = object (fold (λ ms l. put (hash_text l.0) (token_data l.1) ms) no_members logs)

-- the length of the registry's log, and the tokens that are known, of the operator's log where there is one, and of
-- the packages' logs
abbrev pub logs_data : ℕ → Option (List ℕ) → List (List ℕ × Option (List ℕ)) → Data
logs_data log_length None packages = object (
    member (codes "logLength") (whole_number log_length) (
    member (codes "packages") (tokens_data packages) no_members))
logs_data log_length (Some token) packages = object (
    member (codes "logLength") (whole_number log_length) (
    member (codes "operator") (string token) (
    member (codes "packages") (tokens_data packages) no_members)))

-- the ids of logs
abbrev pub ids_data : List (List ℕ) → Data
ids_data ids =
    object (member (codes "packages") (array (items_of (map (λ id. string (hash_text id)) ids))) no_members)

abbrev pub inclusion_data : ℕ → List ℕ → Data
inclusion_data log_length leafs = object (
    member (codes "leafs") (array (items_of (map whole_number leafs))) (
    member (codes "logLength") (whole_number log_length) no_members))

abbrev pub consistency_data : ℕ → ℕ → Data
consistency_data old new = object (
    member (codes "from") (whole_number old) (
    member (codes "to") (whole_number new) no_members))

-- a signed record: its message in standard base64 with padding (RFC 4648, section 4), the key's id and the signature
abbrev pub envelope_data : Signed → Data
envelope_data s = object (
    member (codes "contentBytes") (string (encode_of standard s.contents)) (
    member (codes "keyId") (string (hash_text s.key_id)) (
    member (codes "signature") (string s.signature) no_members)))

-- a package's record, without sources for its contents
abbrev pub publish_data : List ℕ → Signed → Data
publish_data name signed = object (
    member (codes "contentSources") (object no_members) (
    member (codes "packageName") (string name) (
    member (codes "record") (envelope_data signed) no_members)))

-- ---- the requests

abbrev pub well_known_request : List ℕ → Request
well_known_request base = plain_get (base ++ codes ".well-known/warg/registry.json")

abbrev pub checkpoint_request : Asker → Request
checkpoint_request a = get_request a (codes "v1/fetch/checkpoint")

abbrev pub verification_request : Asker → SignedCheckpoint → Request
verification_request a c = post_request a (codes "v1/verify/checkpoint") (checkpoint_data c)

abbrev pub logs_request : Asker → ℕ → Option (List ℕ) → List (List ℕ × Option (List ℕ)) → Request
logs_request a log_length operator packages =
    post_request a (codes "v1/fetch/logs") (logs_data log_length operator packages)

abbrev pub names_request : Asker → List (List ℕ) → Request
names_request a ids = post_request a (codes "v1/fetch/names") (ids_data ids)

abbrev pub ledger_request : Asker → Request
ledger_request a = get_request a (codes "v1/ledger")

abbrev pub publish_request : Asker → List ℕ → List ℕ → Signed → Request
publish_request a log_id name signed =
    post_request a (codes "v1/package/" ++ hash_text log_id ++ codes "/record") (publish_data name signed)

abbrev pub record_request : Asker → List ℕ → List ℕ → Request
record_request a log_id record_id =
    get_request a (codes "v1/package/" ++ hash_text log_id ++ codes "/record/" ++ hash_text record_id)

abbrev pub sources_request : Asker → List ℕ → Request
sources_request a digest = get_request a (codes "v1/content/" ++ hash_text digest)

abbrev pub inclusion_request : Asker → ℕ → List ℕ → Request
inclusion_request a log_length leafs =
    post_request a (codes "v1/proof/inclusion") (inclusion_data log_length leafs)

abbrev pub consistency_request : Asker → ℕ → ℕ → Request
consistency_request a old new = post_request a (codes "v1/proof/consistency") (consistency_data old new)

-- the content is sent to a URL, by such a method and with such headers alone
abbrev pub upload_request : Method → List ℕ → List (List ℕ × List ℕ) → List ℕ → Request
upload_request method url headers content =
    record { method = method; url = url; headers = map (λ h. (h.0, plain_value h.1)) headers; body = content }
