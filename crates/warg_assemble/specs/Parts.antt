-- What a call learns, part by part: the log of a package, by an update of it, or a content.
use Rattle.std.specs.Prelude.{◌≡◌, ℕ, List, [], ◌∷◌, ◌++◌, Option, Some, None, bytes_eq, if◌then◌else◌, fold}
use Rattle.std.specs.List.{flat_map}
use Rattle.std.specs.Map.{lookup}
use Rattle.sha2.specs.Sha256.{sha256}
use Rattle.warg_log.specs.Rules.{Accepts, entries_of}
use Rattle.warg_log.specs.History.{releases_of}
use Rattle.warg_exchange.specs.declared.exchange.Exchange.{Exchange}
use Rattle.warg_exchange.specs.declared.checkpoint.SignedCheckpoint.{SignedCheckpoint}
use Rattle.warg_exchange.specs.Requests.{Asker}
use Rattle.warg_info.specs.Kept.{Kept, signed_log}
use Rattle.warg_update.specs.Logs.{Logs}
use Rattle.warg_update.specs.Download.{Downloads}
use Rattle.warg_update.specs.Proved.{Start, Proves}
use Rattle.warg_store.specs.Held.{Registry, is_registry}
use Rattle.warg_store.specs.Contents.{with_content as with_stored}
use Rattle.warg_plan.specs.Keys.{Release}
use Rattle.warg_plan.specs.Walk.{Content, Facts}
use Rattle.warg_plan.specs.Known.{with_log, with_content}
use Rattle.warg_assemble.specs.Known.{Known, registry_of}

-- ---- parts

-- an update of one package under a registry: its exchanges, and the logs of the operator and of the package and the
-- checkpoint that they prove
pub record Update : Type 0 where
  pub registry : Registry
  pub name : List ℕ
  pub exchanges : List Exchange
  pub operator : List Kept
  pub log : List Kept
  pub checkpoint : SignedCheckpoint

-- a content that is loaded under a registry: the exchanges by which it came, none where it was stored, and how it reads
pub record Load : Type 0 where
  pub registry : Registry
  pub digest : List ℕ
  pub exchanges : List Exchange
  pub content : Content

pub data Part : Type 0 where
  Updated : Update → Part
  Loaded : Load → Part

abbrev pub exchanges_in : Part → List Exchange
exchanges_in (Updated u) = u.exchanges
exchanges_in (Loaded l) = l.exchanges

-- ---- what is known after a part

abbrev pub after_update : Known → Update → Known
after_update known u = record known {
  operator = λ r. if is_registry u.registry r then u.operator else known.operator r;
  checkpoint = λ r. if is_registry u.registry r then Some u.checkpoint else known.checkpoint r;
  updated = (u.name, u.registry) ∷ known.updated;
}

abbrev pub known_after : Known → Part → Known
known_after known (Updated u) = after_update known u
known_after known (Loaded l) = record known { contents = with_stored known.contents l.digest l.content.bytes }

abbrev pub known_by : Known → List Part → Known
known_by known [] = known
known_by known (p ∷ ps) = known_by (known_after known p) ps

-- the registry under which a package was updated last
abbrev pub updated_under : Known → List ℕ → Option Registry
updated_under known name = lookup (λ n. bytes_eq name n) known.updated

-- ---- what the walk knows after a part

-- the releases in a log
abbrev pub releases_in : List Kept → List Release
releases_in log = releases_of (entries_of (signed_log log))

abbrev pub learnt : Facts → Part → Facts
learnt f (Updated u) = with_log f u.name (releases_in u.log)
learnt f (Loaded l) = with_content f l.digest l.content

abbrev pub learnt_by : Facts → List Part → Facts
learnt_by f ps = fold learnt f ps

-- ---- when a part is right

-- an update of one package begins with the operator's log and the checkpoint that are known of the registry, and with
-- no log of the package
abbrev pub start_of : Known → Registry → List ℕ → Start
start_of known registry name = record {
  logs = record { operator = known.operator registry; packages = (name, []) ∷ [] };
  stored = known.checkpoint registry;
}

-- the logs of an update of one package
abbrev pub logs_of : Update → Logs
logs_of u = record { operator = u.operator; packages = (u.name, u.log) ∷ [] }

-- a content is stored, and nothing is asked; or it is not, and the exchanges get it
abbrev pub Comes : Asker → Option (List ℕ) → List ℕ → List Exchange → List ℕ → Type 0
Comes a (Some stored) digest xs bytes = (bytes ≡ stored) × (xs ≡ [])
Comes a None digest xs bytes = Downloads a digest xs bytes

module _ (accepts : Accepts) (asker : Registry → Asker) (Reads : Content → Type 0) where
  -- the exchanges prove the logs
  abbrev pub IsUpdate : Known → Update → Type 0
  IsUpdate known u =
      Proves accepts (asker u.registry) (start_of known u.registry u.name) u.exchanges (logs_of u) u.checkpoint

  -- the bytes come, have the digest, and are read so
  pub record IsLoad (known : Known) (l : Load) : Type 0 where
    pub comes : Comes (asker l.registry) (known.contents l.digest) l.digest l.exchanges l.content.bytes
    pub digest : sha256 l.content.bytes ≡ l.digest
    pub reads : Reads l.content

  abbrev pub IsPart : Known → Part → Type 0
  IsPart known (Updated u) = IsUpdate known u
  IsPart known (Loaded l) = IsLoad known l

  -- each is right for what is known by those before it
  unfoldable pub AreParts : Known → List Part → Type 0
  AreParts known [] = Unit {0}
  AreParts known (p ∷ ps) = IsPart known p × AreParts (known_after known p) ps

  -- By what is known and these exchanges a package has this log: they hold an update that proves it, under the registry
  -- that had the package by what was known then.
  pub record HasLog (known : Known) (xs : List Exchange) (name : List ℕ) (log : List Kept) : Type 0 where
    pub before : List Part
    pub update : Update
    pub after : List Exchange
    pub in_turn : xs ≡ flat_map exchanges_in before ++ (update.exchanges ++ after)
    pub parts : AreParts known before
    pub is : IsUpdate (known_by known before) update
    pub of_package : update.name ≡ name
    pub under : update.registry ≡ registry_of (known_by known before) name
    pub has : update.log ≡ log
