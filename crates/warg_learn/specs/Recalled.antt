-- What a learner learns that goes by the logs that are kept, and why it learns nothing.
use Rattle.std.specs.Prelude.{◌≡◌, ◌⊎◌, Bool, ℕ, List, ◌∷◌, IfSome, option_map}
use Rattle.warg_api.specs.Link.{Asked}
use Rattle.warg_info.specs.Kept.{Kept}
use Rattle.warg_store.specs.declared.error.EntryKind.TheVariants as kind
use Rattle.warg_store.specs.Entry.{Entry, Absent, Whole, IsLoadFault}
use Rattle.warg_store.specs.Held.{Registry, Held, NamedInfo, Tells, entry_named, package_key}
use Rattle.warg_store.specs.Namespaces.{Names}
use Rattle.warg_plan.specs.Known.{with_log}
use Rattle.warg_plan.specs.Walk.{Content, Facts, Stop, NeedsLog}
use Rattle.warg_assemble.specs.Known.{Known, registry_of}
use Rattle.warg_assemble.specs.Parts.{Part, learnt, releases_in}
use Rattle.warg_fetch.specs.declared.error.FetchError.{FetchError}
use Rattle.warg_fetch.specs.declared.error.FetchError.TheVariants as fetch
use Rattle.warg_fetch.specs.Fetched.{IsLookupFault, Loads}
use Rattle.warg_learn.specs.Learnt.{IsLearnt}
use Rattle.warg_learn.specs.Refusals.{fetch_refusal}
use Rattle.warg_learn.specs.Seen.{Seen, IsKnown, IsSame, NeverFalls, name_loads, registry_loads}
use Rattle.warg_learn.specs.Unlearnt.{IsUnlearnt}
use Rattle.warg_learn.specs.declared.error.LearnError.{LearnError}

-- ---- lessons

-- the log of a package, as it is kept of a registry
pub record KeptLog : Type 0 where
  pub registry : Registry
  pub name : List ℕ
  pub log : List Kept

-- what is learnt by one who goes by what is kept: a log that is kept, or a part of the call
pub data Lesson : Type 0 where
  Recalled : KeptLog → Lesson
  Learnt : Part → Lesson

abbrev pub taught : Facts → Lesson → Facts
taught f (Recalled k) = with_log f k.name (releases_in k.log)
taught f (Learnt p) = learnt f p

-- what is known once a log was recalled: its package counts as updated under its registry
abbrev pub known_with : Known → KeptLog → Known
known_with known k = record known { updated = (k.name, k.registry) ∷ known.updated }

-- ---- what is kept

-- what is held of a package, under the registry that has it
abbrev pub kept_entry : Known → List ℕ → Held → Entry NamedInfo
kept_entry known name held = entry_named name (held.packages (package_key (registry_of known name) name))

-- why what is kept of a package is not given: the stores don't say which registry has it, or don't give its log. Want
-- of memory tells nothing
abbrev pub IsKeptFault : Known → List ℕ → FetchError → Loads Held → Loads (Entry Names) → Type 0
IsKeptFault known name (fetch.Store e) registries names =
    IsLookupFault e registries names
    ⊎ IsLoadFault e kind.Package registries.before registries.after (option_map (kept_entry known name) registries.told)
IsKeptFault known name (fetch.Update e) registries names = ⊥
IsKeptFault known name fetch.Memory registries names = Unit {0}

module _ {T D : Type 0} (old new : Seen T D) where
  -- the stores were asked what they hold, and nothing else
  pub record AsksStores : Type 0 where
    pub same : IsSame old new
    pub never_falls : NeverFalls old new
    pub transcript : new.transcript ≡ old.transcript
    pub registries : IfSome old.registries (Tells new.registries)
    pub contents : new.contents ≡ old.contents
    pub names : new.names ≡ old.names
    pub pages_left : new.pages_left ≡ old.pages_left
    pub decider : new.decider ≡ old.decider

  -- by what is known, this log is kept of the registry that has the package; that registry is noted from then on
  pub record IsKept (known : Known) (k : KeptLog) : Type 0 where
    pub under : k.registry ≡ registry_of known k.name
    pub found : NamedInfo
    pub held : IfSome old.registries (λ held. kept_entry known k.name held ≡ Whole found)
    pub has : found.info.log ≡ k.log
    pub knows : IsKnown new (known_with known k)

  -- this log is kept
  pub record IsRecalled (k : KeptLog) : Type 0 where
    pub asks : AsksStores
    pub kept : (known : Known) → IsKnown old known → IsKept known k

  -- no log is kept of a package, in the registry that has it by what is known
  pub record IsUnkept (name : List ℕ) : Type 0 where
    pub asks : AsksStores
    pub updated : new.updated ≡ old.updated
    pub absent : (known : Known) → IsKnown old known
        → IfSome old.registries (λ held. kept_entry known name held ≡ Absent)

  -- what is kept of a package is not given, for this reason
  pub record IsUnrecalled {E : Type 0} (name : List ℕ) (e : LearnError E) : Type 0 where
    pub asks : AsksStores
    pub updated : new.updated ≡ old.updated
    pub refusal : FetchError
    pub told : e ≡ fetch_refusal refusal
    pub cause : (known : Known) → IsKnown old known
        → IsKeptFault known name refusal (registry_loads old new) (name_loads old new)

-- ---- what is learnt

module _ {T D : Type 0} (Steps : T → Asked → T → Type 0) where
  -- no log was kept of the package, and this part was learnt
  pub record IsLearntUnkept (Reads : Content → Type 0) (old : Seen T D) (name : List ℕ) (p : Part) (new : Seen T D) :
      Type 0 where
    pub between : Seen T D
    pub unkept : IsUnkept old between name
    pub learns : IsLearnt Steps Reads between (NeedsLog name) p new

  -- A learner was asked for this: the log is the one that is kept, and only where none is kept the package is updated.
  abbrev pub IsRecalledOrLearnt : (Content → Type 0) → Seen T D → Stop → Lesson → Seen T D → Type 0
  IsRecalledOrLearnt Reads old (NeedsLog name) (Recalled k) new = (k.name ≡ name) × IsRecalled old new k
  IsRecalledOrLearnt Reads old (NeedsLog name) (Learnt p) new = IsLearntUnkept Reads old name p new
  IsRecalledOrLearnt Reads old asked (Learnt p) new = IsLearnt Steps Reads old asked p new
  IsRecalledOrLearnt Reads old asked (Recalled k) new = ⊥

  module _ {E : Type 0} (said : D → D → Bool → Bool) (Refuses : List ℕ → E → Type 0) where
    -- no log was kept of the package, and its update is refused for this reason
    pub record IsUnlearntUnkept (old : Seen T D) (name : List ℕ) (e : LearnError E) (new : Seen T D) : Type 0 where
      pub between : Seen T D
      pub unkept : IsUnkept old between name
      pub refused : IsUnlearnt Steps said Refuses between (NeedsLog name) e new

    -- A learner was asked for this, and has not learnt it, for this reason.
    abbrev pub IsNeitherLearnt : Seen T D → Stop → LearnError E → Seen T D → Type 0
    IsNeitherLearnt old (NeedsLog name) e new = IsUnrecalled old new name e ⊎ IsUnlearntUnkept old name e new
    IsNeitherLearnt old asked e new = IsUnlearnt Steps said Refuses old asked e new
