-- What replies mean, by their status, headers and body. The values are those of the calls of Warg registries, as the
-- Rust crate `warg-api` has them in its module `v1`.
use Rattle.std.specs.Prelude.{ℕ, List, [], ◌&&◌, nat_le, codes, if◌then◌else◌, bytes_eq, Bool, false, Option, Some, None, option_map, find, Result, Ok, Err}
use Rattle.std.specs.Str.{is_utf8}
use Rattle.http_header.specs.FieldValue.{FieldValue}
use Rattle.serde_json.specs.Data.{Data}
use Rattle.serde_json.specs.Find.{as_object}
use Rattle.serde_json.specs.Read.{read}
use Rattle.warg_values.specs.Reading.{◌>>=◌}
use Rattle.warg_hash.specs.Name.{is_package_name}
use Rattle.warg_record.specs.Key.{is_key_text}
use Rattle.warg_exchange.specs.declared.exchange.Reply.{Reply}
use Rattle.warg_exchange.specs.declared.checkpoint.Checkpoint.{Checkpoint}
use Rattle.warg_exchange.specs.declared.checkpoint.SignedCheckpoint.{SignedCheckpoint}
use Rattle.warg_exchange.specs.declared.checkpoint.VerificationState.{VerificationState}
use Rattle.warg_exchange.specs.declared.checkpoint.VerificationState.TheVariants.{Unverified, Verified, Invalid}
use Rattle.warg_exchange.specs.declared.checkpoint.CheckpointVerificationResponse.{CheckpointVerificationResponse}
use Rattle.warg_exchange.specs.declared.logs.PublishedRecord.{PublishedRecord}
use Rattle.warg_exchange.specs.declared.content.ContentSource.{ContentSource}
use Rattle.warg_exchange.specs.declared.content.ContentSource.TheVariants.{HttpGet}
use Rattle.warg_exchange.specs.declared.ledger.LedgerSource.{LedgerSource}
use Rattle.warg_exchange.specs.declared.ledger.LedgerSourcesResponse.{LedgerSourcesResponse}
use Rattle.warg_exchange.specs.declared.package.PackageRecordState.{PackageRecordState}
use Rattle.warg_exchange.specs.declared.package.PackageRecordState.TheVariants.{Sourcing, Processing, Published, Rejected}
use Rattle.warg_exchange.specs.declared.proof.InclusionResponse.{InclusionResponse}
use Rattle.warg_exchange.specs.declared.proof.ConsistencyResponse.{ConsistencyResponse}
use Rattle.warg_exchange.specs.declared.service.ServiceError.{ServiceError}
use Rattle.warg_exchange.specs.declared.service.ServiceError.TheVariants.{CheckpointNotFound, LogNotFound, FetchTokenNotFound, RecordNotFound, RecordNotSourcing, NamespaceNotDefined, NamespaceImported, Unauthorized, ConflictPendingPublish, Rejection, ContentDigestNotFound, LeafNotFound, Message}
use Rattle.warg_exchange.specs.Body.{BodyFault, Unexpected, Meaning, required, member_as, optional_as, number_in, flag_in, text_in, formed_in, word_in, hash_in, bytes_in, nullable_in, list_in, hashed_in, named_in}
use Rattle.warg_exchange.specs.Views.{Page, Names, Sources, Endpoint, Publishing}

-- ---- errors

-- the error that holds what a member means
abbrev pub holding : {X : Type 0} → (X → ServiceError) → List ℕ → (Data → Meaning X) → Data → Meaning ServiceError
holding error name f d = member_as name f d >>= λ x. Ok (error x)

-- the error of this kind
abbrev pub service_error_of : List ℕ → Data → Meaning ServiceError
service_error_of kind d =
    if bytes_eq kind (codes "checkpointNotFound") then holding CheckpointNotFound (codes "length") number_in d
    else if bytes_eq kind (codes "logNotFound") then holding LogNotFound (codes "id") hash_in d
    else if bytes_eq kind (codes "fetchTokenNotFound") then holding FetchTokenNotFound (codes "token") text_in d
    else if bytes_eq kind (codes "recordNotFound") then holding RecordNotFound (codes "id") hash_in d
    else if bytes_eq kind (codes "recordNotSourcing") then Ok RecordNotSourcing
    else if bytes_eq kind (codes "namespaceNotDefined") then holding NamespaceNotDefined (codes "namespace") text_in d
    else if bytes_eq kind (codes "namespaceImported") then holding NamespaceImported (codes "namespace") text_in d
    else if bytes_eq kind (codes "unauthorized") then holding Unauthorized (codes "message") text_in d
    else if bytes_eq kind (codes "conflictPendingPublish") then holding ConflictPendingPublish (codes "id") hash_in d
    else if bytes_eq kind (codes "rejection") then holding Rejection (codes "message") text_in d
    else if bytes_eq kind (codes "contentDigestNotFound") then holding ContentDigestNotFound (codes "digest") hash_in d
    else if bytes_eq kind (codes "leafNotFound") then holding LeafNotFound (codes "index") number_in d
    else if bytes_eq kind (codes "message") then holding Message (codes "message") text_in d
    else Err Unexpected

-- the error that a body names
unfoldable pub service_error_in : Data → Meaning ServiceError
service_error_in d = do
  kind ← member_as (codes "type") text_in d
  service_error_of kind d

-- ---- a reply

-- why a reply gives no value: its body has no meaning, or the registry answers with an error
pub data ReplyFault : Type 0 where
  NoMeaning : BodyFault → ReplyFault
  Refused : ServiceError → ReplyFault

-- the first header of a name, which is in lower case (RFC 9110, section 5.1)
abbrev pub first_header : List ℕ → Reply → Option FieldValue
first_header name reply = option_map (λ h. h.1) (find (λ h. bytes_eq h.0 name) reply.headers)

abbrev pub header : List ℕ → Reply → Option (List ℕ)
header name reply = option_map (λ v. v.bytes) (first_header name reply)

abbrev pub is_json : Option (List ℕ) → Bool
is_json None = false
is_json (Some kind) = bytes_eq kind (codes "application/json")

-- the JSON value that bytes are
abbrev pub json_of : List ℕ → Option Data
json_of bytes = if is_utf8 bytes then read bytes else None

-- the value of a body, which has to be JSON and to be called so
abbrev pub body_of : Reply → Meaning Data
body_of reply =
    if is_json (header (codes "content-type") reply) then required (json_of reply.body) else Err Unexpected

-- whether a status is a success (RFC 9110, section 15.3)
abbrev pub is_success : ℕ → Bool
is_success status = nat_le 200 status && nat_le status 299

abbrev pub meant : {X : Type 0} → Meaning X → Result X ReplyFault
meant (Ok x) = Ok x
meant (Err fault) = Err (NoMeaning fault)

abbrev pub refusal : Meaning ServiceError → ReplyFault
refusal (Ok error) = Refused error
refusal (Err fault) = NoMeaning fault

-- the value of a body, read by f
abbrev pub value_in : {X : Type 0} → (Data → Meaning X) → Reply → Meaning X
value_in f reply = body_of reply >>= f

-- the error that a reply's body names
abbrev pub refusal_in : Reply → Meaning ServiceError
refusal_in reply = body_of reply >>= service_error_in

-- what a reply says: by its status, the value of its body or the error that its body names
abbrev pub says : {X : Type 0} → (Data → Meaning X) → Reply → Result X ReplyFault
says f reply = if is_success reply.status then meant (value_in f reply) else Err (refusal (refusal_in reply))

-- ---- checkpoints

unfoldable pub contents_in : Data → Meaning Checkpoint
contents_in d = do
  log_length ← member_as (codes "logLength") number_in d
  log_root ← member_as (codes "logRoot") hash_in d
  map_root ← member_as (codes "mapRoot") hash_in d
  timestamp ← member_as (codes "timestamp") number_in d
  Ok (record { log_length = log_length; log_root = log_root; map_root = map_root; timestamp = timestamp })

unfoldable pub checkpoint_in : Data → Meaning SignedCheckpoint
checkpoint_in d = do
  contents ← member_as (codes "contents") contents_in d
  key_id ← member_as (codes "keyId") hash_in d
  signature ← member_as (codes "signature") (formed_in is_key_text) d
  Ok (record { contents = contents; key_id = key_id; signature = signature })

abbrev pub verification_state_of : List ℕ → Meaning VerificationState
verification_state_of word =
    if bytes_eq word (codes "unverified") then Ok Unverified
    else if bytes_eq word (codes "verified") then Ok Verified
    else if bytes_eq word (codes "invalid") then Ok Invalid
    else Err Unexpected

abbrev pub verification_state_in : Data → Meaning VerificationState
verification_state_in d = text_in d >>= verification_state_of

unfoldable pub verification_in : Data → Meaning CheckpointVerificationResponse
verification_in d = do
  checkpoint ← member_as (codes "checkpoint") verification_state_in d
  signature ← member_as (codes "signature") verification_state_in d
  retry_after ← optional_as (codes "retryAfter") number_in d
  Ok (record { checkpoint = checkpoint; signature = signature; retry_after = retry_after })

-- ---- logs

unfoldable pub published_in : Data → Meaning PublishedRecord
published_in d = do
  contents ← member_as (codes "contentBytes") bytes_in d
  key_id ← member_as (codes "keyId") text_in d
  signature ← member_as (codes "signature") text_in d
  registry_index ← member_as (codes "registryIndex") number_in d
  fetch_token ← member_as (codes "fetchToken") text_in d
  Ok (record {
    content_bytes = contents;
    key_id = key_id;
    signature = signature;
    registry_index = registry_index;
    fetch_token = fetch_token;
  })

unfoldable pub page_in : Data → Meaning Page
page_in d = do
  more ← member_as (codes "more") flag_in d
  operator ← member_as (codes "operator") (list_in published_in) d
  packages ← member_as (codes "packages") (hashed_in (list_in published_in)) d
  Ok (record { more = more; operator = operator; packages = packages })

abbrev pub names_in : Data → Meaning Names
names_in d = member_as (codes "packages") (hashed_in (nullable_in (formed_in is_package_name))) d

unfoldable pub ledger_source_in : Data → Meaning LedgerSource
ledger_source_in d = do
  first ← member_as (codes "firstRegistryIndex") number_in d
  last ← member_as (codes "lastRegistryIndex") number_in d
  url ← member_as (codes "url") text_in d
  content_type ← member_as (codes "contentType") text_in d
  Ok (record { first_registry_index = first; last_registry_index = last; url = url; content_type = content_type })

unfoldable pub ledger_in : Data → Meaning LedgerSourcesResponse
ledger_in d = do
  hash_algorithm ← member_as (codes "hashAlgorithm") text_in d
  sources ← member_as (codes "sources") (list_in ledger_source_in) d
  Ok (record { hash_algorithm = hash_algorithm; sources = sources })

-- ---- contents

unfoldable pub source_in : Data → Meaning ContentSource
source_in d = do
  kind ← member_as (codes "type") (word_in (codes "httpGet")) d
  url ← member_as (codes "url") text_in d
  Ok (HttpGet url)

abbrev pub sources_in : Data → Meaning Sources
sources_in d = member_as (codes "contentSources") (hashed_in (list_in source_in)) d

-- ---- records in publishing

unfoldable pub endpoint_in : Data → Meaning Endpoint
endpoint_in d = do
  kind ← member_as (codes "type") (word_in (codes "http")) d
  method ← member_as (codes "method") text_in d
  url ← member_as (codes "url") text_in d
  headers ← member_as (codes "headers") (named_in text_in) d
  Ok (record { method = method; url = url; headers = headers })

abbrev pub missing_in : Data → Meaning (List Endpoint)
missing_in d = member_as (codes "upload") (list_in endpoint_in) d

abbrev pub record_state_of : List ℕ → Meaning PackageRecordState
record_state_of word =
    if bytes_eq word (codes "sourcing") then Ok Sourcing
    else if bytes_eq word (codes "processing") then Ok Processing
    else if bytes_eq word (codes "published") then Ok Published
    else if bytes_eq word (codes "rejected") then Ok Rejected
    else Err Unexpected

abbrev pub record_state_in : Data → Meaning PackageRecordState
record_state_in d = text_in d >>= record_state_of

abbrev pub some_reason : List ℕ → Meaning (Option (List ℕ))
some_reason text = Ok (Some text)

-- why a record was refused, which a record that was refused has to say
abbrev pub reason_in : PackageRecordState → Data → Meaning (Option (List ℕ))
reason_in Rejected d = member_as (codes "reason") text_in d >>= some_reason
reason_in Sourcing d = optional_as (codes "reason") text_in d
reason_in Processing d = optional_as (codes "reason") text_in d
reason_in Published d = optional_as (codes "reason") text_in d

abbrev pub given_entries : {X : Type 0} → Option (List X) → List X
given_entries (Some entries) = entries
given_entries None = []

-- where each missing content is to be sent, none where nothing is said
abbrev pub missing_contents_in : Data → Meaning (List (List ℕ × List Endpoint))
missing_contents_in d =
    optional_as (codes "missingContent") (hashed_in missing_in) d >>= λ found. Ok (given_entries found)

unfoldable pub publishing_in : Data → Meaning Publishing
publishing_in d = do
  record_id ← member_as (codes "recordId") hash_in d
  state ← member_as (codes "state") record_state_in d
  reason ← reason_in state d
  missing ← missing_contents_in d
  Ok (record { record_id = record_id; state = state; reason = reason; missing = missing })

-- ---- proofs

-- the bytes of the log bundle and of the map bundle
unfoldable pub bundles_in : Data → Meaning InclusionResponse
bundles_in d = do
  log ← member_as (codes "log") bytes_in d
  map ← member_as (codes "map") bytes_in d
  Ok (record { log = log; map = map })

-- the bytes of the bundle that holds the consistency proof
unfoldable pub proof_in : Data → Meaning ConsistencyResponse
proof_in d = do
  proof ← member_as (codes "proof") bytes_in d
  Ok (record { proof = proof })

-- ---- the configuration at a well-known place

-- the text of the registry's URL, where it is given
unfoldable pub well_known_in : Data → Meaning (Option (List ℕ))
well_known_in d = do
  members ← required (as_object d)
  optional_as (codes "wargUrl") text_in d

-- what a reply to the request for it says: nothing, where it is no success
abbrev pub well_known_says : Reply → Meaning (Option (List ℕ))
well_known_says reply =
    if is_success reply.status then (required (json_of reply.body) >>= well_known_in) else Ok None
