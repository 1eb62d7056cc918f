-- The logs of an update, what a page brings for them, and what of them a registry is asked for.
use Rattle.std.specs.Prelude.{◌≡◌, ◌≢◌, ℕ, if◌then◌else◌, List, [], ◌∷◌, map, Contains, bytes_eq, Option, option_map}
use Rattle.std.specs.List.{AllByRecursion, filter_map, flat_map}
use Rattle.sha2.specs.Sha256.{sha256}
use Rattle.warg_hash.specs.Hash.{operator_log_id, package_log_id}
use Rattle.warg_record.specs.Record.{Package, Operator}
use Rattle.warg_proof.specs.declared.leaf.LogLeaf.{LogLeaf}
use Rattle.warg_exchange.specs.declared.logs.PublishedRecord.{PublishedRecord}
use Rattle.warg_exchange.specs.Views.{Page}
use Rattle.warg_log.specs.Rules.{Accepts}
use Rattle.warg_info.specs.Info.{IsLawfulLog}
use Rattle.warg_info.specs.Kept.{Kept, last_kept, last_token, Grows}

-- the operator's log, and those of packages by name, in the order in which they are asked for
pub record Logs : Type 0 where
  pub operator : List Kept
  pub packages : List (List ℕ × List Kept)

-- ---- what a page brings

-- the records that a page lists for the log with this id
abbrev pub brought : List ℕ → List (List ℕ × List PublishedRecord) → List PublishedRecord
brought id listed = flat_map (λ l. if bytes_eq l.0 id then l.1 else []) listed

-- a list that has a record is of a package's log
abbrev pub IsOfPackage : List (List ℕ × List Kept) → List ℕ × List PublishedRecord → Type 0
IsOfPackage packages l = l.1 ≢ [] → (p : List ℕ × List Kept) × Contains packages p × (package_log_id p.0 ≡ l.0)

-- each package's log, in order, with what is brought for it
abbrev pub EachGrows : List (List ℕ × List PublishedRecord) → List (List ℕ × List Kept) → List (List ℕ × List Kept) → Type 0
EachGrows listed [] [] = Unit {0}
EachGrows listed (p ∷ ps) (q ∷ qs) =
    (q.0 ≡ p.0) × Grows Package p.1 (brought (package_log_id p.0) listed) q.1 × EachGrows listed ps qs
EachGrows listed [] (q ∷ qs) = ⊥
EachGrows listed (p ∷ ps) [] = ⊥

-- the logs with what a page brings for them, and for no other log
pub record Brings (before : Logs) (page : Page) (after : Logs) : Type 0 where
  pub operator : Grows Operator before.operator page.operator after.operator
  pub asked : AllByRecursion (IsOfPackage before.packages) page.packages
  pub packages : EachGrows page.packages before.packages after.packages

-- no package whose log a page lists is without a record
abbrev pub LeavesNoneEmpty : List (List ℕ × List Kept) → List (List ℕ × List PublishedRecord) → Type 0
LeavesNoneEmpty packages listed =
    (name : List ℕ) (records : List PublishedRecord) → Contains listed (package_log_id name, records)
    → Contains packages (name, []) → ⊥

-- ---- what the logs are to be

-- each log is lawful, also one without a record
pub record EachIsLawful (accepts : Accepts) (logs : Logs) : Type 0 where
  pub operator : IsLawfulLog Operator accepts logs.operator
  pub packages : AllByRecursion (λ p. IsLawfulLog Package accepts p.1) logs.packages

-- a log is there, and lawful
abbrev pub IsLawfulPackage : Accepts → List ℕ × List Kept → Type 0
IsLawfulPackage accepts p = (p.1 ≢ []) × IsLawfulLog Package accepts p.1

pub record AreLawful (accepts : Accepts) (logs : Logs) : Type 0 where
  pub operator : (logs.operator ≢ []) × IsLawfulLog Operator accepts logs.operator
  pub packages : AllByRecursion (IsLawfulPackage accepts) logs.packages

-- ---- what is asked for

-- the packages' logs, each by its id, with the token of its last record
abbrev pub tokens_of : List (List ℕ × List Kept) → List (List ℕ × Option (List ℕ))
tokens_of packages = map (λ p. (package_log_id p.0, last_token p.1)) packages

-- the logs by their ids: the operator's, and then the packages' in order
abbrev pub logs_by_id : Logs → List (List ℕ × List Kept)
logs_by_id logs = (operator_log_id, logs.operator) ∷ map (λ p. (package_log_id p.0, p.1)) logs.packages

-- the last record of a log, with the log's id
abbrev pub head_in : List ℕ × List Kept → Option (List ℕ × Kept)
head_in l = option_map (λ k. (l.0, k)) (last_kept l.1)

abbrev pub heads_of : Logs → List (List ℕ × Kept)
heads_of logs = filter_map head_in (logs_by_id logs)

abbrev pub index_in : List ℕ × Kept → ℕ
index_in head = head.1.registry_index

-- the last record as an entry of the registry's log
abbrev pub leaf_in : List ℕ × Kept → LogLeaf
leaf_in head = record { log_id = head.0; record_id = sha256 head.1.signed.contents }

-- the places of the last records, and the records
abbrev pub indices_of : Logs → List ℕ
indices_of logs = map index_in (heads_of logs)

abbrev pub leafs_of : Logs → List LogLeaf
leafs_of logs = map leaf_in (heads_of logs)
