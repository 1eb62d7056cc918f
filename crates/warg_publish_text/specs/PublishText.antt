-- What is to be published, as JSON (RFC 8259) that is kept, in lines and with the members of each object ascending.
use Rattle.std.specs.Prelude.{ℕ, List, [], ◌∷◌, if◌then◌else◌, bytes_eq, codes, map, Option, Some, None, Ok, Err}
use Rattle.std.specs.Result.{result_ok}
use Rattle.semver.specs.Identifiers.{parts_text}
use Rattle.semver.specs.Parse.{Parts, version_parts}
use Rattle.json.specs.Layout.{pretty}
use Rattle.json.specs.Tree.{json_tokens}
use Rattle.serde_json.specs.Data.{Data, string, array, object, Members, no_members, member}
use Rattle.serde_json.specs.View.{items_of}
use Rattle.serde_json.specs.Written.{outline}
use Rattle.warg_values.specs.Reading.{◌>>=◌}
use Rattle.warg_hash.specs.Hash.{hash_text}
use Rattle.warg_hash.specs.Name.{is_package_name}
use Rattle.warg_record.specs.Key.{is_key_text}
use Rattle.warg_record.specs.Record.{Package, is_permission}
use Rattle.warg_exchange.specs.Body.{Meaning, Unexpected, required, member_as, optional_as, text_in, formed_in, hash_in, list_in}
use Rattle.warg_exchange.specs.Replies.{json_of}
use Rattle.warg_publish.specs.Publish.{PlainPublishEntry, PlainPublishInfo, Init, Release, Yank, Grant, Revoke}

-- ---- what texts mean

-- a version of the form of SemVer 2.0
abbrev pub version_in : Data → Meaning Parts
version_in d = text_in d >>= λ t. required (result_ok (version_parts t))

-- a permission that a key can hold in a package's log
abbrev pub permission_in : Data → Meaning (List ℕ)
permission_in d = formed_in (is_permission Package) d

abbrev pub some_of : List (List ℕ) → Meaning (List (List ℕ))
some_of [] = Err Unexpected
some_of (p ∷ ps) = Ok (p ∷ ps)

-- one permission or more
abbrev pub permissions_in : Data → Meaning (List (List ℕ))
permissions_in d = list_in permission_in d >>= some_of

unfoldable pub release_in : Data → Meaning PlainPublishEntry
release_in d = do
  content ← member_as (codes "content") hash_in d
  version ← member_as (codes "version") version_in d
  Ok (Release version content)

unfoldable pub yank_in : Data → Meaning PlainPublishEntry
yank_in d = do
  version ← member_as (codes "version") version_in d
  Ok (Yank version)

unfoldable pub grant_in : Data → Meaning PlainPublishEntry
grant_in d = do
  key ← member_as (codes "key") (formed_in is_key_text) d
  permissions ← member_as (codes "permissions") permissions_in d
  Ok (Grant key permissions)

unfoldable pub revoke_in : Data → Meaning PlainPublishEntry
revoke_in d = do
  key_id ← member_as (codes "keyId") hash_in d
  permissions ← member_as (codes "permissions") permissions_in d
  Ok (Revoke key_id permissions)

-- an entry of this kind
abbrev pub entry_of : List ℕ → Data → Meaning PlainPublishEntry
entry_of kind d =
    if bytes_eq kind (codes "init") then Ok Init
    else if bytes_eq kind (codes "release") then release_in d
    else if bytes_eq kind (codes "yank") then yank_in d
    else if bytes_eq kind (codes "grant") then grant_in d
    else if bytes_eq kind (codes "revoke") then revoke_in d
    else Err Unexpected

unfoldable pub entry_in : Data → Meaning PlainPublishEntry
entry_in d = do
  kind ← member_as (codes "type") text_in d
  entry_of kind d

unfoldable pub publish_in : Data → Meaning PlainPublishInfo
publish_in d = do
  entries ← member_as (codes "entries") (list_in entry_in) d
  head ← optional_as (codes "head") hash_in d
  name ← member_as (codes "name") (formed_in is_package_name) d
  Ok (record { name = name; head = head; entries = entries })

-- what bytes mean that are JSON
abbrev pub publish_of : List ℕ → Option PlainPublishInfo
publish_of bytes = result_ok (required (json_of bytes) >>= publish_in)

-- ---- what is written

abbrev pub permissions_data : List (List ℕ) → Data
permissions_data permissions = array (items_of (map string permissions))

abbrev pub entry_data : PlainPublishEntry → Data
entry_data Init = object (member (codes "type") (string (codes "init")) no_members)
entry_data (Release version content) = object (
    member (codes "content") (string (hash_text content)) (
    member (codes "type") (string (codes "release")) (
    member (codes "version") (string (parts_text version)) no_members)))
entry_data (Yank version) = object (
    member (codes "type") (string (codes "yank")) (
    member (codes "version") (string (parts_text version)) no_members))
entry_data (Grant key permissions) = object (
    member (codes "key") (string key) (
    member (codes "permissions") (permissions_data permissions) (
    member (codes "type") (string (codes "grant")) no_members)))
entry_data (Revoke key_id permissions) = object (
    member (codes "keyId") (string (hash_text key_id)) (
    member (codes "permissions") (permissions_data permissions) (
    member (codes "type") (string (codes "revoke")) no_members)))

-- a member that may be missing
abbrev pub head_member : Option (List ℕ) → Members → Members
head_member None ms = ms
head_member (Some head) ms = member (codes "head") (string (hash_text head)) ms

-- by its entries, the head and the package's name
abbrev pub info_data : Data → Option (List ℕ) → List ℕ → Data
info_data entries head name =
    object (member (codes "entries") entries (head_member head (member (codes "name") (string name) no_members)))

abbrev pub publish_data : PlainPublishInfo → Data
publish_data info = info_data (array (items_of (map entry_data info.entries))) info.head info.name

-- in lines
abbrev pub publish_text : PlainPublishInfo → List ℕ
publish_text info = pretty (json_tokens (outline (publish_data info)))
