-- What a registry publishes of a log, and what it answers to a request for logs.
use Rattle.std.specs.Prelude.{◌≡◌, ◌≢◌, ◌↔◌, ℕ, ◌+◌, ◌&&◌, if◌then◌else◌, List, [], ◌∷◌, ◌++◌, map, take, bytes_eq, decimal, slice_get, Contains, Option, Some, None, IfSome, option_map}
use Rattle.warg_hash.specs.Hash.{hash_text, operator_log_id, package_log_id}
use Rattle.warg_record.specs.Envelope.{Signed}
use Rattle.warg_exchange.specs.declared.logs.FetchLogsRequest.{FetchLogsRequest}
use Rattle.warg_exchange.specs.declared.logs.PublishedRecord.{PublishedRecord}
use Rattle.warg_info.specs.Kept.{Kept, is_above, last_token}
use Rattle.warg_page.specs.Logs.{Logs, tokens_of}
use Rattle.warg_ledger.specs.Registry.{Registry, log_below}
use Rattle.warg_model.specs.declared.error.LogsError.{LogsError}
use Rattle.warg_model.specs.declared.error.LogsError.TheVariants as error

-- the record at a place as it is published
abbrev pub published_at : ℕ → Signed → PublishedRecord
published_at place s = record {
  content_bytes = s.contents;
  key_id = hash_text s.key_id;
  signature = s.signature;
  registry_index = place;
  fetch_token = decimal place;
}

-- the records of a log that stand behind a place, among some entries, of which the first has this place
unfoldable pub published_behind : List ℕ → Option ℕ → ℕ → List (List ℕ × Signed) → List PublishedRecord
published_behind id after place [] = []
published_behind id after place (e ∷ entries) =
    if bytes_eq e.0 id && is_above place after
    then published_at place e.1 ∷ published_behind id after (place + 1) entries
    else published_behind id after (place + 1) entries

-- ---- a request for logs

-- the logs that a request asks for, each with the token of its last record that is known
abbrev pub asked_in : FetchLogsRequest → List (List ℕ × Option (List ℕ))
asked_in request = (operator_log_id, request.operator) ∷ request.packages.entries

-- the record at a place is one of the log with this id, below a length
abbrev pub HasRecordAt : Registry → ℕ → List ℕ → ℕ → Type 0
HasRecordAt w n id place = slice_get (map (λ e. e.0) (take n w.entries)) place ≡ Some id

-- all records of a log below a length, which has some, behind the one that the token names, where there is one
pub record AreBehind (w : Registry) (n : ℕ) (id : List ℕ) (token : Option (List ℕ)) (records : List PublishedRecord) :
    Type 0 where
  pub place : Option ℕ
  pub named : token ≡ option_map w.token place
  pub of_log : IfSome place (HasRecordAt w n id)
  pub some : log_below w n id ≢ []
  pub all : records ≡ published_behind id place 0 (take n w.entries)

-- the list of a log, where it has a record, in front of others
abbrev pub with_list : List ℕ → List PublishedRecord → List (List ℕ × List PublishedRecord)
    → List (List ℕ × List PublishedRecord)
with_list id [] others = others
with_list id (r ∷ records) others = (id, r ∷ records) ∷ others

-- the lists of the logs that are asked for, in order, of those that have a record behind their token
abbrev pub AreLists : Registry → ℕ → List (List ℕ × Option (List ℕ)) → List (List ℕ × List PublishedRecord) → Type 0
AreLists w n [] listed = listed ≡ []
AreLists w n (a ∷ asked) listed =
    (records : List PublishedRecord) × (others : List (List ℕ × List PublishedRecord))
    × AreBehind w n a.0 a.1 records × AreLists w n asked others × (listed ≡ with_list a.0 records others)

-- why nothing is answered of a log: it has no record, or its token names none of its records
abbrev pub IsLogFault : Registry → ℕ → List ℕ × Option (List ℕ) → LogsError → Type 0
IsLogFault w n a (error.LogNotFound id) = (a.0 ≡ id) × (a.1 ≡ None) × (log_below w n id ≡ [])
IsLogFault w n a (error.FetchTokenNotFound token) =
    (a.1 ≡ Some token) × ((place : ℕ) → HasRecordAt w n a.0 place → token ≢ w.token place)
IsLogFault w n a error.Memory = Unit {0}

-- so it is with one of these logs
abbrev pub IsLogsFault : Registry → ℕ → List (List ℕ × Option (List ℕ)) → LogsError → Type 0
IsLogsFault w n asked e = (a : List ℕ × Option (List ℕ)) × Contains asked a × IsLogFault w n a e

-- a log begins with another
abbrev pub StartsWith : List Kept → List Kept → Type 0
StartsWith whole log = (rest : List Kept) × (whole ≡ log ++ rest)

-- tokens name the last records of logs that begin a registry's below a length: of each log its own, in whatever order
pub record NameLast (w : Registry) (n : ℕ) (operator : Option (List ℕ)) (packages : List (List ℕ × Option (List ℕ)))
    (logs : Logs) : Type 0 where
  pub operator_begins : StartsWith (log_below w n operator_log_id) logs.operator
  pub packages_begin : (name : List ℕ) (log : List Kept) → Contains logs.packages (name, log)
      → StartsWith (log_below w n (package_log_id name)) log
  pub operator_token : operator ≡ last_token logs.operator
  pub package_tokens : (a : List ℕ × Option (List ℕ)) → Contains (tokens_of logs.packages) a ↔ Contains packages a

-- a request names them
abbrev pub Names : Registry → Logs → FetchLogsRequest → Type 0
Names w logs request = NameLast w request.log_length request.operator request.packages.entries logs
