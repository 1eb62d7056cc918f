-- The update of packages of one registry together, under one checkpoint: what it begins with, what it gives and writes,
-- and why it gives nothing.
use Rattle.std.specs.Prelude.{◌≡◌, ◌⊎◌, ℕ, Bool, List, [], ◌∷◌, ◌++◌, Option, Some, if◌then◌else◌, map}
use Rattle.std.specs.List.{All}
use Rattle.warg_hash.specs.Hash.{package_log_id}
use Rattle.warg_log.specs.Rules.{Accepts}
use Rattle.warg_exchange.specs.declared.exchange.Exchange.{Exchange}
use Rattle.warg_exchange.specs.declared.checkpoint.Checkpoint.{Checkpoint}
use Rattle.warg_exchange.specs.declared.checkpoint.SignedCheckpoint.{SignedCheckpoint}
use Rattle.warg_exchange.specs.Requests.{Asker}
use Rattle.warg_info.specs.Info.{IsSoundOperator, IsSoundPackage}
use Rattle.warg_info.specs.Kept.{Kept}
use Rattle.warg_info.specs.declared.package.PackageInfo.{PackageInfo}
use Rattle.warg_page.specs.Logs.{Logs}
use Rattle.warg_page.specs.Steps.{AreGood, IsGoodOperator}
use Rattle.warg_page.specs.Views.{logs_view}
use Rattle.warg_api.specs.Link.{Asked}
use Rattle.warg_session.specs.Proved.{AreAsked, Proves, Start}
use Rattle.warg_session.specs.Recording.{Transcript, AreKept}
use Rattle.warg_session.specs.Updating.{IsUpdateRefusal, LeavesPages}
use Rattle.warg_store.specs.declared.error.StoreError.{StoreError}
use Rattle.warg_store.specs.Entry.{IsStoreFault}
use Rattle.warg_store.specs.Held.{Registry, Held, NamedInfo, Tells, is_registry, named_info, operator_info}
use Rattle.warg_assemble.specs.Known.{Known}
use Rattle.warg_fetch.specs.Fetched.{IsFetchFault, IsStartFault, Loads}
use Rattle.warg_fetch.specs.Stored.{IsOwnStore, KnowsRegistries}
use Rattle.warg_fetch.specs.Writes.{Write, OperatorLog, PackageLog, LastCheckpoint, HoldsFront}
use Rattle.warg_fetch.specs.declared.error.FetchError.{FetchError}
use Rattle.warg_fetch.specs.declared.group.GroupUpdate.{GroupUpdate}

-- ---- updates of groups

-- an update of packages of one registry: its exchanges, and the logs of the operator and of the packages and the
-- checkpoint that they prove
pub record Group : Type 0 where
  pub registry : Registry
  pub exchanges : List Exchange
  pub logs : Logs
  pub checkpoint : SignedCheckpoint

-- it begins with the operator's log and the checkpoint that are known of the registry, and with these logs of packages
abbrev pub group_start : Known → Registry → List (List ℕ × List Kept) → Start
group_start known registry packages = record {
  logs = record { operator = known.operator registry; packages = packages };
  stored = known.checkpoint registry;
}

-- What is known after it. Its packages count as updated under no registry: their contents are not loaded in the same
-- call.
abbrev pub known_after_group : Known → Group → Known
known_after_group known g = record known {
  operator = λ r. if is_registry g.registry r then g.logs.operator else known.operator r;
  checkpoint = λ r. if is_registry g.registry r then Some g.checkpoint else known.checkpoint r;
}

-- ---- what it writes

-- a package's log that was proved under this checkpoint, as it is kept
abbrev pub filed_info : Registry → Checkpoint → List ℕ × List Kept → NamedInfo
filed_info registry checkpoint logged = record {
  name = logged.0;
  info = record { registry = registry; checkpoint = Some checkpoint; log = logged.1 };
}

-- it writes the operator's log, each package's in order, and then the checkpoint
abbrev pub group_writes : Group → List Write
group_writes g =
    OperatorLog g.registry
    (record { registry = g.registry; checkpoint = Some g.checkpoint.contents; log = g.logs.operator })
    ∷ (map (λ p. PackageLog g.registry (filed_info g.registry g.checkpoint.contents p)) g.logs.packages
    ++ LastCheckpoint g.registry g.checkpoint ∷ [])

-- ---- what a call gives

-- an update of a group, whose exchanges were these
abbrev pub group_of : GroupUpdate → List Exchange → Group
group_of got xs = record {
  registry = got.registry;
  exchanges = xs;
  logs = logs_view got.operator got.packages.items;
  checkpoint = got.checkpoint;
}

-- what is kept of it
abbrev pub package_writes : Registry → List PackageInfo → List Write
package_writes registry packages = map (λ info. PackageLog registry (named_info info)) packages

abbrev pub writes_in_group : GroupUpdate → List Write
writes_in_group got =
    OperatorLog got.registry (operator_info got.operator)
    ∷ (package_writes got.registry got.packages.items ++ LastCheckpoint got.registry got.checkpoint ∷ [])

-- its infos are sound
pub record IsSoundGroup (got : GroupUpdate) : Type 0 where
  pub operator : IsSoundOperator got.operator
  pub packages : All IsSoundPackage got.packages.items

-- its infos are sound, and their logs lawful by these signatures
pub record IsGoodGroup (accepts : Accepts) (got : GroupUpdate) : Type 0 where
  pub operator : IsGoodOperator accepts got.operator
  pub packages : AreGood accepts got.packages.items

-- a store of registries tells what is known of them, and is its client's own
pub record KnowsOwn (accepts : Accepts) (told : Option Held) (known : Known) : Type 0 where
  pub registries : KnowsRegistries told known
  pub own : IsOwnStore accepts told

module _ {T : Type 0} (accepts : Accepts) (asker : Registry → Asker) (known : Known) (registry : Registry)
    (packages : List (List ℕ × List Kept)) (Steps : T → Asked → T → Type 0) (begun now : Transcript T) where
  -- the exchanges that were kept are those of an update of these packages, under this registry
  pub record IsGroupFetched (g : Group) : Type 0 where
    pub under : g.registry ≡ registry
    pub kept : AreKept Steps begun g.exchanges now
    pub asked : AreAsked (asker registry) (group_start known registry packages) g.exchanges
    pub proves : Proves accepts (asker registry) (group_start known registry packages) g.exchanges g.logs g.checkpoint

  -- what a call gives, of the pages that it might ask for so many being left
  pub record IsGroupUpdated (limit : ℕ) (got : GroupUpdate) : Type 0 where
    pub exchanges : List Exchange
    pub fetched : IsGroupFetched (group_of got exchanges)
    pub pages : LeavesPages (asker registry) begun now limit got.pages_left

  -- ---- refusals

  -- an update of the packages was fetched, and a front of what it writes is held besides
  pub record LeavesFetchedGroup (told : Option Held) (held : Held) : Type 0 where
    pub update : Group
    pub fetched : IsGroupFetched update
    pub leaves : HoldsFront told held (group_writes update)

  -- what a refused fetch leaves
  abbrev pub LeavesGroup : Option Held → Held → Type 0
  LeavesGroup told held = Tells told held ⊎ LeavesFetchedGroup told held

  -- an update of the packages was fetched, and the store that was to keep it failed
  pub record IsGroupUnkept (e : StoreError) (before after : ℕ) : Type 0 where
    pub update : Group
    pub fetched : IsGroupFetched update
    pub fault : IsStoreFault e before after

  -- why the packages are not fetched: the store does not give what their update begins with, or does not keep it; or
  -- the update, which may ask for so many pages, has a fault, by what may be said where a decision is asked
  abbrev pub IsGroupFault : FetchError → (Bool → Bool) → ℕ → Loads Held → Type 0
  IsGroupFault e said limit registries = IsFetchFault e
      (λ e. IsStartFault e registry registries ⊎ IsGroupUnkept e registries.before registries.after)
      (λ refusal. IsUpdateRefusal refusal (map (λ p. package_log_id p.0) packages) accepts said limit (asker registry)
      (group_start known registry packages) Steps begun now)
