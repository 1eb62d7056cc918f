-- What a registry of one key holds, and what its calls make of it.
use Rattle.std.specs.Prelude.{◌≡◌, ◌≢◌, ℕ, ◌+◌, true, if◌then◌else◌, List, [], ◌∷◌, ◌++◌, length, map, find, codes, decimal, Contains, Option, Some, None, IfSome, option_and_then}
use Rattle.std.specs.List.{AllByRecursion}
use Rattle.semver.specs.Parse.{Parts}
use Rattle.sha2.specs.Sha256.{sha256}
use Rattle.warg_hash.specs.Hash.{operator_log_id, package_log_id}
use Rattle.warg_record.specs.Key.{IsKeyText}
use Rattle.warg_record.specs.Record.{Package, Operator, PlainEntry, Init, Release, Yank}
use Rattle.warg_record.specs.Envelope.{Signed}
use Rattle.warg_log.specs.History.{releases_of, same_version}
use Rattle.warg_log.specs.Lawful.{IsLawful, IsRead}
use Rattle.warg_log.specs.Rules.{Accepts, entries_of, breach_of, is_first, signed_text}
use Rattle.warg_proof.specs.LogTree.{root}
use Rattle.warg_proof.specs.MapTree.{map_root}
use Rattle.warg_proof.specs.MapProofs.{log_key}
use Rattle.warg_exchange.specs.declared.checkpoint.Checkpoint.{Checkpoint}
use Rattle.warg_exchange.specs.declared.checkpoint.SignedCheckpoint.{SignedCheckpoint}
use Rattle.warg_update.specs.Proved.{checkpoint_text}
use Rattle.warg_ledger.specs.Registry.{Registry, IsCheckpointOf, entry_texts, heads}
use Rattle.warg_model.specs.declared.key.SigningKey.{SigningKey}
use Rattle.warg_model.specs.Records.{accepted_by, record_at, signed_by, records_of}
use Rattle.warg_model.specs.Signatures.{signature_on}

-- its key, the one record of its operator's log, the records of packages behind it, each with the id of its log, the
-- checkpoints that it made, and the last of them as it is signed
pub record Held : Type 0 where
  pub key : SigningKey
  pub opening : Signed
  pub published : List (List ℕ × Signed)
  pub checkpoints : List Checkpoint
  pub latest : Option SignedCheckpoint

-- the registry as one growing list, which calls the record at each place by that number in decimal
abbrev pub registry_of : Held → Registry
registry_of h = record { entries = (operator_log_id, h.opening) ∷ h.published; token = decimal }

-- ---- what the calls make of it

-- an Init of the key
abbrev pub init_of : SigningKey → PlainEntry
init_of k = Init k.key (codes "sha256")

-- a new registry, with an operator's log of one Init
abbrev pub opened : SigningKey → Held
opened k = record {
  key = k;
  opening = signed_by k (record_at 0 [] (init_of k));
  published = [];
  checkpoints = [];
  latest = None;
}

-- the records of the log of the package with this name
abbrev pub package_records : Held → List ℕ → List Signed
package_records h name = records_of (package_log_id name) h.published

-- with the next record of a package's log at the end of the list
abbrev pub with_record : Held → List ℕ → PlainEntry → Held
with_record h name entry = record h {
  published = h.published
      ++ (
        package_log_id name,
        signed_by h.key (record_at (length h.published + 1) (package_records h name) entry),
      ) ∷ [];
}

-- with the log of a package: an Init of the key, where the log has no record yet
abbrev pub with_log : Held → List ℕ → Held
with_log h name = if is_first (package_records h name) then with_record h name (init_of h.key) else h

-- with a release of a package, behind an Init of the key where the package is new
abbrev pub with_release : Held → List ℕ → Parts → List ℕ → Held
with_release h name version content = with_record (with_log h name) name (Release version content)

-- with a yank of a package's version
abbrev pub with_yank : Held → List ℕ → Parts → Held
with_yank h name version = with_record h name (Yank version)

-- the checkpoint of a length of a registry, of that second
abbrev pub checkpoint_at : Registry → ℕ → Checkpoint
checkpoint_at w n = record {
  log_length = n;
  log_root = root (entry_texts w n);
  map_root = map_root (heads w n);
  timestamp = n;
}

-- a checkpoint as the key signs it
abbrev pub checkpoint_by : SigningKey → Checkpoint → SignedCheckpoint
checkpoint_by k c = record { contents = c; key_id = sha256 k.key; signature = k.signature }

-- the checkpoint of all its records
abbrev pub present : Held → Checkpoint
present h = checkpoint_at (registry_of h) (length (registry_of h).entries)

-- with that checkpoint
abbrev pub with_checkpoint : Held → Held
with_checkpoint h = record h {
  checkpoints = h.checkpoints ++ present h ∷ [];
  latest = Some (checkpoint_by h.key (present h));
}

-- the same with more records at the end of the list
abbrev pub StartsAs : Held → Held → Type 0
StartsAs h later = (more : List (List ℕ × Signed)) × (later ≡ record h { published = h.published ++ more })

-- ---- releases

-- what a package's log says of a version: nothing, or its content's digest, which a yanked one has not
abbrev pub release_in : Held → List ℕ → Parts → Option (Parts × Option (List ℕ))
release_in h name version =
    find (λ r. same_version version r.0) (releases_of (entries_of (package_records h name)))

-- the content's digest of a version that stands
abbrev pub content_in : Held → List ℕ → Parts → Option (List ℕ)
content_in h name version = option_and_then (λ r. r.1) (release_in h name version)

-- ---- signatures

-- the texts that were signed: those of the records, and those of the checkpoints
abbrev pub signed_texts : Held → List (List ℕ)
signed_texts h =
    signed_text Operator h.opening.contents
    ∷ (map (λ e. signed_text Package e.1.contents) h.published ++ map checkpoint_text h.checkpoints)

-- the signature of each of them
abbrev pub signatures_of : Held → List (List ℕ × List ℕ × List ℕ)
signatures_of h = map (signature_on h.key) (signed_texts h)

-- a verifier accepts the key's signature of each of them
abbrev pub AcceptsSigned : Accepts → Held → Type 0
AcceptsSigned accepts h = AllByRecursion (λ text. accepts h.key.key text h.key.signature ≡ true) (signed_texts h)

-- ---- when it is sound

-- the id is that of a package's log
abbrev pub IsPackageLogId : List ℕ → Type 0
IsPackageLogId id = (name : List ℕ) × (id ≡ package_log_id name)

-- a record is as it is read, signed by the key
pub record IsOwn (k : SigningKey) (s : Signed) : Type 0 where
  pub key_id : s.key_id ≡ sha256 k.key
  pub signature : s.signature ≡ k.signature

-- a checkpoint of the registry, the last of those that it made, is signed by the key
pub record IsLatest (h : Held) (c : SignedCheckpoint) : Type 0 where
  pub is : IsCheckpointOf (registry_of h) c.contents
  pub before : List Checkpoint
  pub last : h.checkpoints ≡ before ++ c.contents ∷ []
  pub key_id : c.key_id ≡ sha256 h.key.key
  pub signature : c.signature ≡ h.key.signature

-- the operator's log is one Init of the key, and the logs of packages are lawful by its signatures
pub record IsModel (h : Held) : Type 0 where
  pub opening : h.opening ≡ signed_by h.key (record_at 0 [] (init_of h.key))
  pub obeys : breach_of Operator (accepted_by h.key) [] h.opening ≡ None
  pub lawful : (id : List ℕ) → IsLawful Package (accepted_by h.key) (records_of id h.published)
  pub ids : AllByRecursion (λ e. IsPackageLogId e.0) h.published
  pub opening_is_read : IsRead Operator h.opening
  pub each_is_read : AllByRecursion (λ e. IsRead Package e.1) h.published
  pub each_is_own : AllByRecursion (λ e. IsOwn h.key e.1) h.published
  pub signature_text : IsKeyText h.key.signature
  pub latest : IfSome h.latest (IsLatest h)

-- no two ids of its logs have one key in the map, and the operator's log has the id of no package's, its own or not:
-- else two texts of one SHA-256 are known
pub record HasNoClash (w : Registry) : Type 0 where
  pub one_key : (e f : List ℕ × Signed) → Contains w.entries e → Contains w.entries f → log_key e.0 ≡ log_key f.0
      → e.0 ≡ f.0
  pub one_kind : (name : List ℕ) → package_log_id name ≢ operator_log_id
