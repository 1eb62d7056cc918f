-- The log that stored records are: each is read, their places ascend, and each obeys all rules but that of the
-- signature.
use Rattle.std.specs.Prelude.{◌&&◌, not, Bool, true, if◌then◌else◌, List, [], ◌∷◌, ◌++◌, Option, Some, None, is_some, option_map, option_and_then}
use Rattle.std.specs.Str.{is_utf8}
use Rattle.warg_hash.specs.Hash.{digest_of}
use Rattle.warg_record.specs.Envelope.{Signed}
use Rattle.warg_record.specs.Key.{is_key_text}
use Rattle.warg_record.specs.Reading.{record_of}
use Rattle.warg_record.specs.Record.{Kind}
use Rattle.warg_log.specs.Rules.{any_signature, breach_of}
use Rattle.warg_exchange.specs.declared.logs.PublishedRecord.{PublishedRecord}
use Rattle.warg_info.specs.Faults.{ascends}
use Rattle.warg_info.specs.Kept.{Kept, signed_log}

-- the envelope that a record's message, the text of its key's id and that of its signature are read as
abbrev pub envelope_in : Kind → PublishedRecord → Option Signed
envelope_in kind p =
    option_and_then (λ rec. option_and_then (λ key_id.
    if is_utf8 p.signature && is_key_text p.signature
    then Some (record { rec = rec; contents = p.content_bytes; key_id = key_id; signature = p.signature }) else None)
    (digest_of p.key_id)) (record_of kind p.content_bytes)

-- with its place and its token
abbrev pub kept_in : Kind → PublishedRecord → Option Kept
kept_in kind p = option_map
    (λ (s : Signed). record { signed = s; registry_index = p.registry_index; fetch_token = p.fetch_token })
    (envelope_in kind p)

-- each of them
abbrev pub all_kept : Kind → List PublishedRecord → Option (List Kept)
all_kept kind [] = Some []
all_kept kind (p ∷ ps) = option_and_then (λ k. option_map (λ ks. k ∷ ks) (all_kept kind ps)) (kept_in kind p)

-- whether each of some records breaks no rule behind a log and those before it
abbrev pub is_lawful_behind : Kind → List Signed → List Signed → Bool
is_lawful_behind kind log [] = true
is_lawful_behind kind log (s ∷ more) =
    not (is_some (breach_of kind any_signature log s)) && is_lawful_behind kind (log ++ s ∷ []) more

abbrev pub if_lawful : Kind → List Kept → Option (List Kept)
if_lawful kind log = if is_lawful_behind kind [] (signed_log log) then Some log else None

-- the log
abbrev pub log_in : Kind → List PublishedRecord → Option (List Kept)
log_in kind ps = if ascends ps then option_and_then (if_lawful kind) (all_kept kind ps) else None
