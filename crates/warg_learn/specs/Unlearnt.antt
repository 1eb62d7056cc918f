-- Why something is not learnt, and what that leaves.
use Rattle.std.specs.Prelude.{◌≡◌, ◌⊎◌, Bool, List, ℕ, [], ◌∷◌, Some, IfSome, true, false}
use Rattle.sha2.specs.Sha256.{sha256}
use Rattle.warg_hash.specs.Hash.{package_log_id}
use Rattle.warg_values.specs.Faults.{Rose}
use Rattle.warg_api.specs.Link.{Asked}
use Rattle.warg_api.specs.declared.error.ClientError.TheVariants as call
use Rattle.warg_session.specs.Updating.{IsBegun, IsUpdateRefusal}
use Rattle.warg_session.specs.declared.error.UpdateRefusal.TheVariants as update
use Rattle.warg_store.specs.Held.{Registry}
use Rattle.warg_plan.specs.Walk.{Stop, NeedsLog, NeedsContent}
use Rattle.warg_assemble.specs.Known.{Known, registry_of}
use Rattle.warg_assemble.specs.Parts.{Update, Updated, known_after, start_of, updated_under}
use Rattle.warg_fetch.specs.declared.error.FetchError.{FetchError}
use Rattle.warg_fetch.specs.declared.error.FetchError.TheVariants as fetch
use Rattle.warg_fetch.specs.declared.error.LoadError.TheVariants as load
use Rattle.warg_fetch.specs.Fetched.{IsFetchFault, IsFetched}
use Rattle.warg_fetch.specs.Kept.{IsStoresFault, LeavesPackage}
use Rattle.warg_fetch.specs.Loaded.{IsContentFetched, IsLoadRefusal, LeavesFetch, with_bytes}
use Rattle.warg_fetch.specs.Stored.{IsOwnStore, Knows, KnowsContents}
use Rattle.warg_learn.specs.Seen.{Seen, IsKnown, IsSame, NeverFalls, registry_loads, name_loads, content_loads}
use Rattle.warg_learn.specs.declared.error.LearnError.{LearnError}
use Rattle.warg_learn.specs.declared.error.LearnError.TheVariants as error

-- the link gave no reply
abbrev pub is_link_fault : {E : Type 0} → LearnError E → Bool
is_link_fault (error.Fetch (fetch.Update update.LinkFault)) = true
is_link_fault (error.Load (load.Call call.LinkFault)) = true
is_link_fault _ = false

-- by what is known the package was updated under a registry, and of this registry that holds
pub record IsUnder (known : Known) (name : List ℕ) (Holds : Registry → Type 0) : Type 0 where
  pub registry : Registry
  pub updated : updated_under known name ≡ Some registry
  pub holds : Holds registry

module _ {T D : Type 0} (Steps : T → Asked → T → Type 0) (old new : Seen T D) (known : Known) where
  -- ---- what is left

  -- an update of the package was fetched, and just what it teaches is known besides
  pub record KeepsUpdate (name : List ℕ) : Type 0 where
    pub update : Update
    pub named : update.name ≡ name
    pub fetched : IsFetched old.accepts old.asker known Steps old.transcript new.transcript update
    pub knows : Knows new.accepts new.registries new.names (known_after known (Updated update))

  -- the content came from a registry, and just its bytes are known besides
  pub record KeepsContent (digest : List ℕ) (registry : Registry) : Type 0 where
    pub bytes : List ℕ
    pub fetched : IsContentFetched (old.asker registry) digest Steps old.transcript new.transcript known bytes
    pub knows : KnowsContents new.contents (with_bytes known digest bytes)

  -- what the store of registries holds: what a refused fetch leaves, or all of an update
  abbrev pub LeavesRegistries : List ℕ → Type 0
  LeavesRegistries name =
      IfSome old.registries
      (LeavesPackage old.accepts old.asker known name Steps old.transcript new.transcript new.registries)
      ⊎ KeepsUpdate name

  -- what the store of contents holds, where a registry was asked: what a refused fetch leaves, or the content
  abbrev pub LeavesContents : List ℕ → Registry → Type 0
  LeavesContents digest registry =
      IfSome old.contents
      (LeavesFetch (old.asker registry) digest Steps old.transcript new.transcript new.contents)
      ⊎ KeepsContent digest registry

  -- what a log leaves that is not learnt
  pub record LeavesLog (name : List ℕ) : Type 0 where
    pub registries : LeavesRegistries name
    pub contents : new.contents ≡ old.contents
    pub names : new.names ≡ old.names
    pub updated : new.updated ≡ old.updated

  -- what a content leaves that is not learnt: no registry is asked for one of a package that was not updated
  pub record LeavesContent (name digest : List ℕ) : Type 0 where
    pub registries : new.registries ≡ old.registries
    pub contents : (new.contents ≡ old.contents) ⊎ IsUnder known name (LeavesContents digest)
    pub names : new.names ≡ old.names
    pub updated : new.updated ≡ old.updated

  abbrev pub LeavesLearner : Stop → Type 0
  LeavesLearner (NeedsLog name) = LeavesLog name
  LeavesLearner (NeedsContent name digest) = LeavesContent name digest
  LeavesLearner _ = ⊥

  -- the exchanges that were kept for a log are those of an update of the package, over or not
  abbrev pub IsLogBegun : Stop → Type 0
  IsLogBegun (NeedsLog name) =
      IsBegun (old.asker (registry_of known name)) (start_of known (registry_of known name) name)
      old.transcript new.transcript
  IsLogBegun _ = Unit {0}

  -- ---- refusals

  -- why a package is not fetched, by what may be said where a decision is asked
  abbrev pub IsUnfetched : (D → D → Bool → Bool) → List ℕ → FetchError → Type 0
  IsUnfetched said name e =
      IsFetchFault e
      (λ e. IsStoresFault old.accepts old.asker known name Steps old.transcript new.transcript e
      (registry_loads old new) (name_loads old new))
      (λ e. IsUpdateRefusal e (package_log_id name ∷ []) old.accepts (said old.decider new.decider) old.pages_left
      (old.asker (registry_of known name)) (start_of known (registry_of known name) name) Steps
      old.transcript new.transcript)

  module _ {E : Type 0} (said : D → D → Bool → Bool) (Refuses : List ℕ → E → Type 0) where
    -- a content came, and its bytes are not read for this reason
    pub record IsUnread (digest : List ℕ) (e : E) (registry : Registry) : Type 0 where
      pub bytes : List ℕ
      pub fetched : IsContentFetched (old.asker registry) digest Steps old.transcript new.transcript known bytes
      pub digest_is : sha256 bytes ≡ digest
      pub refused : Refuses bytes e

    -- why something is not learnt. Want of memory tells nothing
    abbrev pub IsLearnFault : Stop → LearnError E → Type 0
    IsLearnFault asked error.Memory = Unit {0}
    IsLearnFault (NeedsLog name) (error.Fetch e) = IsUnfetched said name e
    IsLearnFault (NeedsContent name digest) (error.Load e) = IsUnder known name (λ registry.
        IsLoadRefusal (old.asker registry) digest Steps old.transcript new.transcript e (content_loads old new))
    IsLearnFault (NeedsContent name digest) (error.Content e) = IsUnder known name (IsUnread digest e)
    IsLearnFault _ _ = ⊥

-- A learner was asked for this, and has not learnt it, for this reason.
pub record IsUnlearnt {T D E : Type 0} (Steps : T → Asked → T → Type 0) (said : D → D → Bool → Bool)
    (Refuses : List ℕ → E → Type 0) (old : Seen T D) (asked : Stop) (e : LearnError E) (new : Seen T D) :
    Type 0 where
  pub same : IsSame old new
  pub never_falls : NeverFalls old new
  pub link_fault : is_link_fault e ≡ true → Rose old.faults.link new.faults.link
  pub cause : (known : Known) → IsKnown old known → IsLearnFault Steps old new known said Refuses asked e
  pub leaves : (known : Known) → IsKnown old known → LeavesLearner Steps old new known asked
  pub own : (known : Known) → IsKnown old known → IsOwnStore old.accepts new.registries
  pub begun : (known : Known) → IsKnown old known → IsLogBegun Steps old new known asked
