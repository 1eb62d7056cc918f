-- Packages that are updated in groups, those of one registry together, and why they are not.
use Rattle.std.specs.Prelude.{◌≡◌, ◌⊎◌, ◌+◌, ◌++◌, ℕ, Bool, List, [], ◌∷◌, if◌then◌else◌, fold, map, reverse, IfSome, Contains}
use Rattle.std.specs.List.{All, flat_map}
use Rattle.warg_values.specs.Faults.{Rose}
use Rattle.warg_api.specs.Link.{Asked}
use Rattle.warg_info.specs.Info.{IsSoundPackage}
use Rattle.warg_info.specs.Kept.{Kept}
use Rattle.warg_info.specs.declared.package.PackageInfo.{PackageInfo}
use Rattle.warg_page.specs.Views.{package_view}
use Rattle.warg_session.specs.Pages.{pages_asked}
use Rattle.warg_session.specs.Updating.{IsBegun}
use Rattle.warg_session.specs.declared.error.UpdateRefusal.TheVariants as update
use Rattle.warg_store.specs.Held.{Registry, is_registry}
use Rattle.warg_assemble.specs.Known.{Known, registry_of}
use Rattle.warg_fetch.specs.declared.error.FetchError.{FetchError}
use Rattle.warg_fetch.specs.declared.error.FetchError.TheVariants as fetch
use Rattle.warg_fetch.specs.Fetched.{IsFetchFault, IsLookupFault}
use Rattle.warg_fetch.specs.Groups.{Group, IsGroupFault, IsGroupFetched, LeavesGroup, group_start, known_after_group}
use Rattle.warg_fetch.specs.Stored.{IsOwnStore}
use Rattle.warg_learn.specs.Recalled.{AsksStores}
use Rattle.warg_learn.specs.Seen.{Seen, IsKnown, IsSame, NeverFalls, ReadsStores, name_loads, registry_loads}

-- ---- groups

-- a name that joins the group of its registry, which is made behind the others where there is none
abbrev pub joined : Registry → List ℕ → List (Registry × List (List ℕ)) → List (Registry × List (List ℕ))
joined registry name [] = (registry, name ∷ []) ∷ []
joined registry name (g ∷ gs) =
    if is_registry registry g.0 then (g.0, g.1 ++ name ∷ []) ∷ gs else g ∷ joined registry name gs

-- names by the registries that have the packages
abbrev pub grouped : (List ℕ → Registry) → List (List ℕ) → List (Registry × List (List ℕ))
grouped registry names = fold (λ groups name. joined (registry name) name groups) [] names

-- packages with no log yet
abbrev pub without_logs : List (List ℕ) → List (List ℕ × List Kept)
without_logs names = map (λ name. (name, [])) names

-- all the logs that updates prove
abbrev pub proved_logs : List Group → List (List ℕ × List Kept)
proved_logs updates = flat_map (λ (u : Group). u.logs.packages) updates

-- the infos of these packages, in order, with logs that are among these
pub record AreAnswers (logs : List (List ℕ × List Kept)) (names : List (List ℕ)) (infos : List PackageInfo) : Type 0 where
  pub named : map (λ (info : PackageInfo). info.name) infos ≡ names
  pub logged : All (λ info. Contains logs (package_view info)) infos
  pub sound : All IsSoundPackage infos

module _ {T D : Type 0} where
  -- the stores were asked which registry has each package, and these are the groups by what is known
  pub record AreGrouped (old new : Seen T D) (names : List (List ℕ)) (groups : List (Registry × List (List ℕ))) :
      Type 0 where
    pub asks : AsksStores old new
    pub updated : new.updated ≡ old.updated
    pub are : (known : Known) → IsKnown old known → groups ≡ grouped (registry_of known) names

  -- the stores do not give which registry has a package
  pub record AreNotGrouped (old new : Seen T D) (e : FetchError) : Type 0 where
    pub asks : AsksStores old new
    pub cause : (known : Known) → IsKnown old known
        → IsFetchFault e (λ e. IsLookupFault e (registry_loads old new) (name_loads old new)) (λ refusal. ⊥)

  -- no memory is left for what was updated
  pub record IsForgotten (old new : Seen T D) (e : FetchError) : Type 0 where
    pub told : e ≡ fetch.Memory
    pub nothing : new ≡ old

module _ {T D : Type 0} (Steps : T → Asked → T → Type 0) where
  -- ---- what is updated

  -- A group was updated under its registry, from no log of its packages; the exchanges were kept, and just what they
  -- prove is known besides. The pages that were asked for are no longer left, and nobody was asked for a decision.
  pub record IsRightGroup (old : Seen T D) (group : Registry × List (List ℕ)) (u : Group) (new : Seen T D)
      (known : Known) : Type 0 where
    pub fetched : IsGroupFetched old.accepts old.asker known group.0 (without_logs group.1) Steps
        old.transcript new.transcript u
    pub knows : IsKnown new (known_after_group known u)
    pub pages : new.pages_left + pages_asked (old.asker group.0) u.exchanges ≡ old.pages_left
    pub undecided : new.decider ≡ old.decider

  -- A group is updated so, whatever is known. Stores that can be read still can.
  pub record IsGroupLearnt (old : Seen T D) (group : Registry × List (List ℕ)) (u : Group) (new : Seen T D) :
      Type 0 where
    pub same : IsSame old new
    pub never_falls : NeverFalls old new
    pub reads : ReadsStores old → ReadsStores new
    pub right : (known : Known) → IsKnown old known → IsRightGroup old group u new known

  -- groups are updated, one after the other
  unfoldable pub AreGroupsLearnt : Seen T D → Seen T D → List (Registry × List (List ℕ)) → List Group → Type 0
  AreGroupsLearnt old new [] [] = new ≡ old
  AreGroupsLearnt old new (g ∷ gs) (u ∷ us) =
      (next : Seen T D) × IsGroupLearnt old g u next × AreGroupsLearnt next new gs us
  AreGroupsLearnt old new gs us = ⊥

  -- The packages are grouped by the registries that have them, by what is known at first; the groups are updated, the
  -- one made last first; and these are the infos of the packages in the order of the names, with logs that the updates
  -- prove.
  pub record AreUpdatedLogs (old new : Seen T D) (names : List (List ℕ)) (infos : List PackageInfo) : Type 0 where
    pub groups : List (Registry × List (List ℕ))
    pub between : Seen T D
    pub are : AreGrouped old between names groups
    pub updates : List Group
    pub learnt : AreGroupsLearnt between new (reverse groups) updates
    pub answers : AreAnswers (proved_logs updates) names infos

  -- ---- refusals

  module _ (said : D → D → Bool → Bool) where
    -- why a group is not updated, and what that leaves
    pub record IsGroupUnlearnt (old : Seen T D) (group : Registry × List (List ℕ)) (e : FetchError) (new : Seen T D) :
        Type 0 where
      pub same : IsSame old new
      pub never_falls : NeverFalls old new
      pub link_fault : e ≡ fetch.Update update.LinkFault → Rose old.faults.link new.faults.link
      pub cause : (known : Known) → IsKnown old known
          → IsGroupFault old.accepts old.asker known group.0 (without_logs group.1) Steps old.transcript new.transcript e
          (said old.decider new.decider) old.pages_left (registry_loads old new)
      pub leaves : (known : Known) → IsKnown old known → IfSome old.registries
          (LeavesGroup old.accepts old.asker known group.0 (without_logs group.1) Steps old.transcript new.transcript
          new.registries)
      pub contents : new.contents ≡ old.contents
      pub names : new.names ≡ old.names
      pub updated : new.updated ≡ old.updated
      pub own : (known : Known) → IsKnown old known → IsOwnStore old.accepts new.registries
      pub begun : (known : Known) → IsKnown old known
          → IsBegun (old.asker group.0) (group_start known group.0 (without_logs group.1)) old.transcript new.transcript

    -- the first of these groups is not updated
    pub record IsFirstNotUpdated (old new : Seen T D) (groups : List (Registry × List (List ℕ))) (e : FetchError) :
        Type 0 where
      pub group : Registry × List (List ℕ)
      pub later : List (Registry × List (List ℕ))
      pub are : groups ≡ group ∷ later
      pub refused : IsGroupUnlearnt old group e new

    -- groups are updated up to where it ends: the next is not updated, or there is no memory for what was
    pub record AreGroupsUnlearnt (old new : Seen T D) (groups : List (Registry × List (List ℕ))) (e : FetchError) :
        Type 0 where
      pub front : List (Registry × List (List ℕ))
      pub rest : List (Registry × List (List ℕ))
      pub are : groups ≡ front ++ rest
      pub updates : List Group
      pub before : Seen T D
      pub learnt : AreGroupsLearnt old before front updates
      pub cause : IsFirstNotUpdated before new rest e ⊎ IsForgotten before new e

    -- the packages are grouped as above, and not all groups are updated
    pub record IsGroupRefused (old new : Seen T D) (names : List (List ℕ)) (e : FetchError) : Type 0 where
      pub groups : List (Registry × List (List ℕ))
      pub between : Seen T D
      pub are : AreGrouped old between names groups
      pub refused : AreGroupsUnlearnt between new (reverse groups) e

    -- why packages are not updated: they can't be grouped, or not all groups are updated
    abbrev pub AreNotUpdated : Seen T D → Seen T D → List (List ℕ) → FetchError → Type 0
    AreNotUpdated old new names e = AreNotGrouped old new e ⊎ IsGroupRefused old new names e
