-- The values in the bodies of replies.
use Rattle.std.specs.Prelude.{ℕ, List, Bool, codes}
use Rattle.serde_json.specs.Data.{Data, string, boolean, array, object, item, no_items, no_members, member, put}
use Rattle.warg_hash.specs.Hash.{hash_text}
use Rattle.warg_exchange.specs.declared.logs.PublishedRecord.{PublishedRecord}
use Rattle.warg_exchange.specs.Requests.{whole_number}

-- a record, with its message in base64
abbrev pub published_data : List ℕ → PublishedRecord → Data
published_data contents r = object (
    member (codes "contentBytes") (string contents) (
    member (codes "fetchToken") (string r.fetch_token) (
    member (codes "keyId") (string r.key_id) (
    member (codes "registryIndex") (whole_number r.registry_index) (
    member (codes "signature") (string r.signature) no_members)))))

-- a page, by the values of its lists
abbrev pub page_data : Bool → Data → Data → Data
page_data more operator packages = object (
    member (codes "more") (boolean more) (
    member (codes "operator") operator (
    member (codes "packages") packages no_members)))

-- the bundles of proofs over the log and over the map, in base64
abbrev pub bundles_data : List ℕ → List ℕ → Data
bundles_data log map = object (
    member (codes "log") (string log) (
    member (codes "map") (string map) no_members))

-- the bundle that holds a proof of consistency, in base64
abbrev pub proof_data : List ℕ → Data
proof_data proof = object (member (codes "proof") (string proof) no_members)

-- the one URL at which a content is
abbrev pub source_data : List ℕ → Data
source_data url = object (
    member (codes "type") (string (codes "httpGet")) (
    member (codes "url") (string url) no_members))

abbrev pub sources_data : List ℕ → List ℕ → Data
sources_data digest url = object (
    member (codes "contentSources") (object (
    member (hash_text digest) (array (item (source_data url) no_items)) no_members)) no_members)

-- ---- errors

-- an error of a kind that tells nothing more
abbrev pub kind_data : List ℕ → Data
kind_data kind = object (member (codes "type") (string kind) no_members)

-- an error of a kind that tells one thing
abbrev pub told_data : List ℕ → Data → List ℕ → Data
told_data name told kind = object (put (codes "type") (string kind) (put name told no_members))
