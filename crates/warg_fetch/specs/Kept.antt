-- What the fetch of a package leaves in the store of registries, and why it gives nothing.
use Rattle.std.specs.Prelude.{◌≡◌, ◌⊎◌, ℕ, List, Option}
use Rattle.warg_log.specs.Rules.{Accepts}
use Rattle.warg_exchange.specs.Requests.{Asker}
use Rattle.warg_api.specs.Link.{Asked}
use Rattle.warg_session.specs.Recording.{Transcript}
use Rattle.warg_store.specs.declared.error.StoreError.{StoreError}
use Rattle.warg_store.specs.Entry.{Entry, IsStoreFault}
use Rattle.warg_store.specs.Held.{Registry, Held, Tells}
use Rattle.warg_store.specs.Namespaces.{Names}
use Rattle.warg_assemble.specs.Known.{Known, registry_of}
use Rattle.warg_assemble.specs.Parts.{Update}
use Rattle.warg_fetch.specs.Fetched.{IsFetched, IsOpeningFault, Loads}
use Rattle.warg_fetch.specs.Writes.{HoldsFront, writes_of}

module _ {T : Type 0} (accepts : Accepts) (asker : Registry → Asker) (known : Known) (name : List ℕ)
    (Steps : T → Asked → T → Type 0) (begun now : Transcript T) where
  -- an update of the package was fetched, and a front of what it writes is held besides
  pub record LeavesUpdate (told : Option Held) (held : Held) : Type 0 where
    pub update : Update
    pub named : update.name ≡ name
    pub fetched : IsFetched accepts asker known Steps begun now update
    pub leaves : HoldsFront told held (writes_of update)

  -- what a refused fetch leaves
  abbrev pub LeavesPackage : Option Held → Held → Type 0
  LeavesPackage told held = Tells told held ⊎ LeavesUpdate told held

  -- an update of the package was fetched, and the store that was to keep it failed
  pub record IsUnkept (e : StoreError) (before after : ℕ) : Type 0 where
    pub update : Update
    pub named : update.name ≡ name
    pub fetched : IsFetched accepts asker known Steps begun now update
    pub fault : IsStoreFault e before after

  -- why the stores refuse: they do not give what an update begins with, or do not keep the update
  abbrev pub IsStoresFault : StoreError → Loads Held → Loads (Entry Names) → Type 0
  IsStoresFault e registries names =
      IsOpeningFault e (registry_of known name) registries names
      ⊎ IsUnkept e registries.before registries.after
