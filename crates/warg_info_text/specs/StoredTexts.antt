-- Checkpoints and logs as JSON (RFC 8259) that is kept, in lines and with the members of each object ascending.
use Rattle.std.specs.Prelude.{ℕ, nat_eq, ◌&&◌, Bool, if◌then◌else◌, List, bytes_eq, codes, map, Option, Some, None, is_some, option_map, option_and_then, Ok}
use Rattle.std.specs.Option.{option_eq}
use Rattle.std.specs.Result.{result_ok}
use Rattle.base64.specs.Engines.{standard}
use Rattle.base64.specs.GeneralPurpose.{encode_of}
use Rattle.json.specs.Layout.{pretty}
use Rattle.json.specs.Tree.{json_tokens}
use Rattle.serde_json.specs.Data.{Data, string, array, object, Members, no_members, member}
use Rattle.serde_json.specs.View.{items_of}
use Rattle.serde_json.specs.Written.{outline}
use Rattle.warg_values.specs.Reading.{◌>>=◌}
use Rattle.warg_hash.specs.Hash.{hash_text}
use Rattle.warg_hash.specs.Name.{is_package_name}
use Rattle.warg_record.specs.Record.{Kind, Operator, Package}
use Rattle.warg_exchange.specs.declared.checkpoint.Checkpoint.{Checkpoint}
use Rattle.warg_exchange.specs.declared.checkpoint.SignedCheckpoint.{SignedCheckpoint}
use Rattle.warg_exchange.specs.declared.logs.PublishedRecord.{PublishedRecord}
use Rattle.warg_exchange.specs.Body.{Meaning, required, member_as, optional_as, number_in, text_in, formed_in, list_in}
use Rattle.warg_exchange.specs.Replies.{json_of, contents_in, checkpoint_in, published_in}
use Rattle.warg_exchange.specs.Requests.{whole_number, contents_data, checkpoint_data}
use Rattle.warg_info.specs.Kept.{Kept, last_index, last_token}
use Rattle.warg_store.specs.Held.{Info}
use Rattle.warg_info_text.specs.StoredLogs.{log_in}

-- ---- what texts mean

-- what bytes mean that are JSON
abbrev pub meaning_of : {X : Type 0} → (Data → Meaning X) → List ℕ → Option X
meaning_of f bytes = result_ok (required (json_of bytes) >>= f)

-- a signed checkpoint
abbrev pub checkpoint_of : List ℕ → Option SignedCheckpoint
checkpoint_of bytes = meaning_of checkpoint_in bytes

-- what is stored of a log: the name of its package, that of its registry, the checkpoint under which it was proved
-- last, its records, and the place and the token of the last one
pub record Stored : Type 0 where
  pub name : Option (List ℕ)
  pub registry : Option (List ℕ)
  pub checkpoint : Option Checkpoint
  pub records : List PublishedRecord
  pub head_registry_index : Option ℕ
  pub head_fetch_token : Option (List ℕ)

unfoldable pub stored_in : Data → Meaning Stored
stored_in d = do
  checkpoint ← optional_as (codes "checkpoint") contents_in d
  head_fetch_token ← optional_as (codes "headFetchToken") text_in d
  head_registry_index ← optional_as (codes "headRegistryIndex") number_in d
  name ← optional_as (codes "name") (formed_in is_package_name) d
  records ← member_as (codes "records") (list_in published_in) d
  registry ← optional_as (codes "registry") text_in d
  Ok (record {
    name = name;
    registry = registry;
    checkpoint = checkpoint;
    records = records;
    head_registry_index = head_registry_index;
    head_fetch_token = head_fetch_token;
  })

-- the place and the token are those of the log's last record
abbrev pub has_head : Stored → List Kept → Bool
has_head s log =
    option_eq nat_eq s.head_registry_index (last_index log) && option_eq bytes_eq s.head_fetch_token (last_token log)

abbrev pub log_of : Kind → Stored → Option (List Kept)
log_of kind s = option_and_then (λ log. if has_head s log then Some log else None) (log_in kind s.records)

abbrev pub info_of : Kind → Stored → Option Info
info_of kind s =
    option_map (λ log. record { registry = s.registry; checkpoint = s.checkpoint; log = log }) (log_of kind s)

-- the log of a registry's operator, which has no name
abbrev pub operator_of : List ℕ → Option Info
operator_of bytes =
    option_and_then (λ s. if is_some s.name then None else info_of Operator s) (meaning_of stored_in bytes)

-- the log of a package, with the package's name
abbrev pub package_of : List ℕ → Option (List ℕ × Info)
package_of bytes =
    option_and_then (λ s. option_and_then (λ name. option_map (λ info. (name, info)) (info_of Package s)) s.name)
    (meaning_of stored_in bytes)

-- ---- what is written

-- a value in lines
abbrev pub lines_of : Data → List ℕ
lines_of d = pretty (json_tokens (outline d))

abbrev pub checkpoint_text : SignedCheckpoint → List ℕ
checkpoint_text c = lines_of (checkpoint_data c)

-- a record, by the texts of its message, of its key's id and of its signature
abbrev pub record_data : List ℕ → List ℕ → List ℕ → List ℕ → ℕ → Data
record_data contents key_id signature fetch_token registry_index = object (
    member (codes "contentBytes") (string contents) (
    member (codes "fetchToken") (string fetch_token) (
    member (codes "keyId") (string key_id) (
    member (codes "registryIndex") (whole_number registry_index) (
    member (codes "signature") (string signature) no_members)))))

-- a record, with its message in standard base64 with padding (RFC 4648, section 4)
abbrev pub kept_data : Kept → Data
kept_data k =
    record_data (encode_of standard k.signed.contents) (hash_text k.signed.key_id) k.signed.signature k.fetch_token
    k.registry_index

-- a member that may be missing
abbrev pub optional_member : List ℕ → Option Data → Members → Members
optional_member name None ms = ms
optional_member name (Some d) ms = member name d ms

abbrev pub info_data : Option (List ℕ) → Info → Data
info_data name info = object (
    optional_member (codes "checkpoint") (option_map contents_data info.checkpoint) (
    optional_member (codes "headFetchToken") (option_map string (last_token info.log)) (
    optional_member (codes "headRegistryIndex") (option_map whole_number (last_index info.log)) (
    optional_member (codes "name") (option_map string name) (
    member (codes "records") (array (items_of (map kept_data info.log))) (
    optional_member (codes "registry") (option_map string info.registry) no_members))))))

abbrev pub operator_text : Info → List ℕ
operator_text info = lines_of (info_data None info)

abbrev pub package_text : List ℕ → Info → List ℕ
package_text name info = lines_of (info_data (Some name) info)
