-- What the update of a package gives by what stores hold, and why it gives nothing.
use Rattle.std.specs.Prelude.{◌≡◌, ◌⊎◌, ℕ, Bool, List, [], ◌∷◌, Option, None, option_map}
use Rattle.warg_hash.specs.Hash.{package_log_id}
use Rattle.warg_log.specs.Rules.{Accepts}
use Rattle.warg_exchange.specs.declared.exchange.Exchange.{Exchange}
use Rattle.warg_exchange.specs.Requests.{Asker}
use Rattle.warg_info.specs.Info.{operator_log, package_log, IsSoundOperator, IsSoundPackage}
use Rattle.warg_info.specs.declared.package.PackageInfo.{PackageInfo}
use Rattle.warg_page.specs.Steps.{IsGood, IsGoodOperator}
use Rattle.warg_api.specs.Link.{Asked}
use Rattle.warg_session.specs.Proved.{AreAsked, Proves}
use Rattle.warg_session.specs.Recording.{Transcript, AreKept}
use Rattle.warg_session.specs.Updating.{IsBegun, IsUpdateRefusal, LeavesPages}
use Rattle.warg_session.specs.declared.error.UpdateRefusal.{UpdateRefusal}
use Rattle.warg_store.specs.declared.error.EntryKind.TheVariants as kind
use Rattle.warg_store.specs.declared.error.StoreError.{StoreError}
use Rattle.warg_store.specs.Entry.{Entry, IsLoadFault}
use Rattle.warg_store.specs.Held.{Registry, Held, named_info, operator_info}
use Rattle.warg_store.specs.Namespaces.{Names}
use Rattle.warg_assemble.specs.Known.{Known, registry_of}
use Rattle.warg_assemble.specs.Parts.{Update, start_of, logs_of}
use Rattle.warg_fetch.specs.declared.error.FetchError.{FetchError}
use Rattle.warg_fetch.specs.declared.error.FetchError.TheVariants as error
use Rattle.warg_fetch.specs.declared.package.PackageUpdate.{PackageUpdate}
use Rattle.warg_fetch.specs.Writes.{Write, OperatorLog, PackageLog, LastCheckpoint}

-- an update of a package, whose exchanges were these
abbrev pub update_of : PackageUpdate → List Exchange → Update
update_of got xs = record {
  registry = got.info.registry;
  name = got.info.name;
  exchanges = xs;
  operator = operator_log got.operator;
  log = package_log got.info;
  checkpoint = got.checkpoint;
}

-- what is kept of it
abbrev pub writes_in : PackageUpdate → List Write
writes_in got =
    OperatorLog got.info.registry (operator_info got.operator)
    ∷ (PackageLog got.info.registry (named_info got.info)
    ∷ (LastCheckpoint got.info.registry got.checkpoint ∷ []))

-- these infos are those of one package
pub record IsSingle (infos : List PackageInfo) : Type 0 where
  pub info : PackageInfo
  pub is : infos ≡ info ∷ []

-- The exchanges that were kept are those of an update of the package, under the registry that has it by what is known.
pub record IsFetched {T : Type 0} (accepts : Accepts) (asker : Registry → Asker) (known : Known)
    (Steps : T → Asked → T → Type 0) (begun now : Transcript T) (u : Update) : Type 0 where
  pub under : u.registry ≡ registry_of known u.name
  pub kept : AreKept Steps begun u.exchanges now
  pub asked : AreAsked (asker u.registry) (start_of known u.registry u.name) u.exchanges
  pub proves : Proves accepts (asker u.registry) (start_of known u.registry u.name) u.exchanges (logs_of u) u.checkpoint

-- ---- what is good

-- its infos are sound
pub record IsSoundUpdate (got : PackageUpdate) : Type 0 where
  pub operator : IsSoundOperator got.operator
  pub info : IsSoundPackage got.info

-- its infos are sound, and their logs lawful by these signatures
pub record IsGoodUpdate (accepts : Accepts) (got : PackageUpdate) : Type 0 where
  pub operator : IsGoodOperator accepts got.operator
  pub info : IsGood accepts got.info

-- What the update of a package gives, by what is known: it is of this package, the exchanges that were kept are its own, and
-- of the pages that it might ask for so many are left.
pub record IsPackageFetched {T : Type 0} (accepts : Accepts) (asker : Registry → Asker) (known : Known) (name : List ℕ)
    (limit : ℕ) (Steps : T → Asked → T → Type 0) (begun now : Transcript T) (got : PackageUpdate) : Type 0 where
  pub named : got.info.name ≡ name
  pub exchanges : List Exchange
  pub fetched : IsFetched accepts asker known Steps begun now (update_of got exchanges)
  pub pages : LeavesPages (asker (registry_of known name)) begun now limit got.pages_left

-- the exchanges that were kept are those of an update of the package, over or not
abbrev pub IsFetchBegun : {T : Type 0} → (Registry → Asker) → Known → List ℕ → Transcript T → Transcript T → Type 0
IsFetchBegun asker known name begun now =
    IsBegun (asker (registry_of known name)) (start_of known (registry_of known name) name) begun now

-- ---- refusals

-- how many calls of a store had failed at two moments, and what it told at the first
pub record Loads (T : Type 0) : Type 0 where
  pub before : ℕ
  pub after : ℕ
  pub told : Option T

abbrev pub loads : {T : Type 0} → ℕ → ℕ → Option T → Loads T
loads before after told = record { before = before; after = after; told = told }

-- which registry has the packages of a namespace can't be loaded
abbrev pub IsLookupFault : StoreError → Loads Held → Loads (Entry Names) → Type 0
IsLookupFault e registries names =
    IsLoadFault e kind.Operator registries.before registries.after
    (option_map (λ (h : Held). h.operators None) registries.told)
    ⊎ IsLoadFault e kind.Namespaces names.before names.after names.told

-- what is kept of a registry can't be loaded
abbrev pub IsStartFault : StoreError → Registry → Loads Held → Type 0
IsStartFault e r registries =
    IsLoadFault e kind.Operator registries.before registries.after
    (option_map (λ (h : Held). h.operators r) registries.told)
    ⊎ IsLoadFault e kind.Checkpoint registries.before registries.after
    (option_map (λ (h : Held). h.checkpoints r) registries.told)

-- what an update begins with can't be loaded
abbrev pub IsOpeningFault : StoreError → Registry → Loads Held → Loads (Entry Names) → Type 0
IsOpeningFault e r registries names = IsLookupFault e registries names ⊎ IsStartFault e r registries

-- the fault of a fetch: one of the stores has it, or the update has. Want of memory tells nothing
abbrev pub IsFetchFault : FetchError → (StoreError → Type 0) → (UpdateRefusal → Type 0) → Type 0
IsFetchFault (error.Store e) OfStores OfUpdate = OfStores e
IsFetchFault (error.Update e) OfStores OfUpdate = OfUpdate e
IsFetchFault error.Memory OfStores OfUpdate = Unit {0}

-- the same for a package, of which an update may ask for so many pages, by what may be said where a decision is asked
abbrev pub IsPackageFault : {T : Type 0} → FetchError → (StoreError → Type 0) → Accepts → (Bool → Bool) → ℕ
    → (Registry → Asker) → Known → List ℕ → (T → Asked → T → Type 0) → Transcript T → Transcript T → Type 0
IsPackageFault e OfStores accepts said limit asker known name Steps begun now = IsFetchFault e OfStores
    (λ refusal. IsUpdateRefusal refusal (package_log_id name ∷ []) accepts said limit (asker (registry_of known name))
    (start_of known (registry_of known name) name) Steps begun now)
