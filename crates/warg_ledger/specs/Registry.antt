-- Honest registries: what they hold, and the replies that are theirs.
use Rattle.std.specs.Prelude.{◌≡◌, ◌≢◌, ◌⊎◌, ◌<◌, ◌≤◌, ℕ, ◌+◌, Bool, false, if◌then◌else◌, List, [], ◌∷◌, ◌++◌, length, map, take, bytes_eq, Contains}
use Rattle.sha2.specs.Sha256.{sha256}
use Rattle.warg_hash.specs.Hash.{operator_log_id, package_log_id}
use Rattle.warg_record.specs.Record.{Kind, Package, Operator}
use Rattle.warg_record.specs.Envelope.{Signed}
use Rattle.warg_log.specs.Rules.{Accepts}
use Rattle.warg_proof.specs.LogTree.{root}
use Rattle.warg_proof.specs.MapTree.{Entries, map_root}
use Rattle.warg_proof.specs.MapProofs.{log_key}
use Rattle.warg_proof.specs.Leaves.{log_entry, map_value}
use Rattle.warg_exchange.specs.declared.checkpoint.Checkpoint.{Checkpoint}
use Rattle.warg_exchange.specs.declared.logs.PublishedRecord.{PublishedRecord}
use Rattle.warg_exchange.specs.Views.{Page}
use Rattle.warg_info.specs.Kept.{Kept, AreKeptAs}
use Rattle.warg_info.specs.Info.{IsLawfulLog}
use Rattle.warg_page.specs.Logs.{Logs, brought}

-- ---- a registry

-- its records in one growing list, each with the id of its log, and what it calls the record at each place by
pub record Registry : Type 0 where
  pub entries : List (List ℕ × Signed)
  pub token : ℕ → List ℕ

-- the records of a log among some entries, of which the first has this place
unfoldable pub log_from : (ℕ → List ℕ) → List ℕ → ℕ → List (List ℕ × Signed) → List Kept
log_from token id place [] = []
log_from token id place (e ∷ entries) =
    if bytes_eq e.0 id then record { signed = e.1; registry_index = place; fetch_token = token place } ∷ log_from token id (place + 1) entries
    else log_from token id (place + 1) entries

-- a log, below a length of the registry's list
abbrev pub log_below : Registry → ℕ → List ℕ → List Kept
log_below w n id = log_from w.token id 0 (take n w.entries)

-- the entries of the registry's log below a length
abbrev pub entry_texts : Registry → ℕ → List (List ℕ)
entry_texts w n = map (λ e. log_entry e.0 (sha256 e.1.contents)) (take n w.entries)

-- a map with the last record of each log, in front of others: of a key that stands twice the first value counts
unfoldable pub heads_before : List (List ℕ × Signed) → Entries → Entries
heads_before [] others = others
heads_before (e ∷ entries) others = heads_before entries ((log_key e.0, map_value (sha256 e.1.contents)) ∷ others)

-- the last record of each log below a length
abbrev pub heads : Registry → ℕ → Entries
heads w n = heads_before (take n w.entries) []

-- the id of a log of this kind: the operator's, or that of a package
abbrev pub IsLogId : Kind → List ℕ → Type 0
IsLogId kind id =
    ((kind ≡ Operator) × (id ≡ operator_log_id))
    ⊎ ((kind ≡ Package) × (name : List ℕ) × (id ≡ package_log_id name))

-- its logs are lawful, below each length, and no two of their ids have one key in the map
pub record IsRegistry (accepts : Accepts) (w : Registry) : Type 0 where
  pub lawful : (kind : Kind) (id : List ℕ) (n : ℕ) → IsLogId kind id → IsLawfulLog kind accepts (log_below w n id)
  pub one_key : (e f : List ℕ × Signed) → Contains w.entries e → Contains w.entries f → log_key e.0 ≡ log_key f.0 → e.0 ≡ f.0

-- the checkpoint of a length of it
pub record IsCheckpointOf (w : Registry) (c : Checkpoint) : Type 0 where
  pub positive : 0 < c.log_length
  pub below : c.log_length ≤ length w.entries
  pub log_root : c.log_root ≡ root (entry_texts w c.log_length)
  pub map_root : c.map_root ≡ map_root (heads w c.log_length)

-- ---- its replies

-- what is published of a log behind a beginning of it: the next records, and all that there are where no more is to come
pub record BringsBehind (kind : Kind) (log before : List Kept) (ps : List PublishedRecord) (more : Bool) : Type 0 where
  pub next : List Kept
  pub after : List Kept
  pub parts : log ≡ before ++ (next ++ after)
  pub published : AreKeptAs kind ps next
  pub all_of_it : more ≡ false → after ≡ []

-- the page behind these logs, which begin the registry's below a length: of each log the next records, no other logs, and
-- of a log without a record it lists records, or does not list it
pub record IsPageOf (w : Registry) (n : ℕ) (logs : Logs) (page : Page) : Type 0 where
  pub operator_records : BringsBehind Operator (log_below w n operator_log_id) logs.operator page.operator page.more
  pub package_records : (name : List ℕ) (log : List Kept) → Contains logs.packages (name, log)
      → BringsBehind Package (log_below w n (package_log_id name)) log (brought (package_log_id name) page.packages) page.more
  pub only_asked : (id : List ℕ) (records : List PublishedRecord) → Contains page.packages (id, records)
      → (name : List ℕ) × (log : List Kept) × Contains logs.packages (name, log) × (package_log_id name ≡ id)
  pub some_records : (name : List ℕ) (records : List PublishedRecord)
      → Contains page.packages (package_log_id name, records) → Contains logs.packages (name, []) → records ≢ []

-- a log begins the registry's, and is the whole of it where no more is to come
pub record Begins (whole log : List Kept) (more : Bool) : Type 0 where
  pub rest : List Kept
  pub parts : whole ≡ log ++ rest
  pub all_of_it : more ≡ false → rest ≡ []
