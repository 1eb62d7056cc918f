-- What a learner answers of the log of a package, and why it answers nothing.
use Rattle.std.specs.Prelude.{◌≡◌, ◌⊎◌, Bool, ℕ, List, IfSome}
use Rattle.warg_api.specs.Link.{Asked}
use Rattle.warg_info.specs.Info.{package_log, IsSoundPackage}
use Rattle.warg_info.specs.declared.package.PackageInfo.{PackageInfo}
use Rattle.warg_store.specs.Entry.{Whole}
use Rattle.warg_store.specs.Held.{named_info}
use Rattle.warg_plan.specs.Walk.{Content, NeedsLog}
use Rattle.warg_assemble.specs.Known.{Known}
use Rattle.warg_assemble.specs.Parts.{Update, Updated}
use Rattle.warg_fetch.specs.declared.error.FetchError.{FetchError}
use Rattle.warg_learn.specs.Learnt.{IsLearnt}
use Rattle.warg_learn.specs.Recalled.{AsksStores, IsKeptFault, IsUnkept, kept_entry}
use Rattle.warg_learn.specs.Refusals.{fetch_refusal}
use Rattle.warg_learn.specs.Seen.{Seen, IsKnown, name_loads, registry_loads}
use Rattle.warg_learn.specs.Unlearnt.{IsUnlearnt}

-- what was kept of a package is answered: nothing was asked, and this is the log that is kept, in the registry that has
-- the package by what is known
pub record IsKeptLog {T D : Type 0} (old new : Seen T D) (name : List ℕ) (info : PackageInfo) : Type 0 where
  pub asks : AsksStores old new
  pub held : (known : Known) → IsKnown old known
      → IfSome old.registries (λ held. kept_entry known name held ≡ Whole (named_info info))

-- what is kept of a package is not given
pub record IsNotGiven {T D : Type 0} (old new : Seen T D) (name : List ℕ) (e : FetchError) : Type 0 where
  pub asks : AsksStores old new
  pub cause : (known : Known) → IsKnown old known
      → IsKeptFault known name e (registry_loads old new) (name_loads old new)

module _ {T D : Type 0} (Steps : T → Asked → T → Type 0) (Reads : Content → Type 0) where
  -- the log is that of an update of the package, which is learnt as for a search
  pub record IsUpdatedLog (old new : Seen T D) (name : List ℕ) (info : PackageInfo) : Type 0 where
    pub update : Update
    pub has : update.log ≡ package_log info
    pub sound : IsSoundPackage info
    pub learnt : IsLearnt Steps Reads old (NeedsLog name) (Updated update) new

  -- no log of the package is kept, and the log is that of an update
  pub record IsFetchedLog (old new : Seen T D) (name : List ℕ) (info : PackageInfo) : Type 0 where
    pub between : Seen T D
    pub unkept : IsUnkept old between name
    pub updated : IsUpdatedLog between new name info

  -- the log that is kept of a package, or where none is that of an update
  abbrev pub IsPackageLog : Seen T D → Seen T D → List ℕ → PackageInfo → Type 0
  IsPackageLog old new name info = IsKeptLog old new name info ⊎ IsFetchedLog old new name info

module _ {T D E : Type 0} (Steps : T → Asked → T → Type 0) (said : D → D → Bool → Bool) (Refuses : List ℕ → E → Type 0) where
  -- why a package is not updated
  abbrev pub IsNotUpdated : Seen T D → Seen T D → List ℕ → FetchError → Type 0
  IsNotUpdated old new name e = IsUnlearnt Steps said Refuses old (NeedsLog name) (fetch_refusal e) new

  -- no log of the package is kept, and it is not updated
  pub record IsNotFetched (old new : Seen T D) (name : List ℕ) (e : FetchError) : Type 0 where
    pub between : Seen T D
    pub unkept : IsUnkept old between name
    pub refused : IsNotUpdated between new name e

  abbrev pub IsPackageLogFault : Seen T D → Seen T D → List ℕ → FetchError → Type 0
  IsPackageLogFault old new name e = IsNotGiven old new name e ⊎ IsNotFetched old new name e
