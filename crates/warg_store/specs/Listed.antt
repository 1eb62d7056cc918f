-- What is held of all packages, as it is listed: a list for each registry.
use Rattle.std.specs.Prelude.{◌≡◌, ◌≢◌, ℕ, if◌then◌else◌, List, [], map, All, Contains, bytes_eq, Option, IfSome, Vec}
use Rattle.std.specs.Global.{Global}
use Rattle.std.specs.List.{IsDistinct}
use Rattle.std.specs.Option.{option_map_or}
use Rattle.indexmap.specs.IndexMap.{IndexMap, get}
use Rattle.warg_hash.specs.Hash.{package_log_id}
use Rattle.warg_info.specs.declared.package.PackageInfo.{PackageInfo}
use Rattle.warg_info.specs.Info.{IsSoundPackage}
use Rattle.warg_values.specs.Faults.{Rose}
use Rattle.warg_store.specs.declared.error.EntryKind.TheVariants.{Package as of_package}
use Rattle.warg_store.specs.declared.error.StoreError.{StoreError}
use Rattle.warg_store.specs.declared.error.StoreError.TheVariants as error
use Rattle.warg_store.specs.Entry.{Entry, Absent, Whole, Unreadable}
use Rattle.warg_store.specs.Held.{NamedInfo, Package, Registry, is_registry, named_info, package_key}

-- an entry as it stands under the id of a log in a list of all packages: what has another id can't be read
abbrev pub entry_under : List ℕ → Entry NamedInfo → Entry NamedInfo
entry_under id Absent = Absent
entry_under id (Whole found) = if bytes_eq (package_log_id found.name) id then Whole found else Unreadable
entry_under id Unreadable = Unreadable

-- what is listed of each registry is what is held of its packages
pub record AreAllPackages (held : Package → Entry NamedInfo) (listed : Registry → List NamedInfo) : Type 0 where
  -- what is listed stands under its own key
  pub held_so : (r : Registry) → All (λ found. held (package_key r found.name) ≡ Whole found) (listed r)
  -- what can be read is listed
  pub all : (p : Package) (found : NamedInfo) → held p ≡ Whole found → Contains (listed p.0) found
  -- there is nothing that can't be read
  pub readable : (p : Package) → entry_under p.1 (held p) ≢ Unreadable
  -- the packages of a registry have different names
  pub differ : (r : Registry) → IsDistinct bytes_eq (map (λ found. found.name) (listed r))

-- why a load of all packages is refused: the store failed, or the entry of a package can't be read. Want of memory
-- tells nothing
abbrev pub IsListingFault : StoreError → ℕ → ℕ → Option (Package → Entry NamedInfo) → Type 0
IsListingFault error.Failed before after held = Rose before after
IsListingFault (error.Damaged damaged) before after held =
    (damaged ≡ of_package) × IfSome held (λ entries. (p : Package) × (entry_under p.1 (entries p) ≡ Unreadable))
IsListingFault (error.IncorrectContent digest expected) before after held = ⊥
IsListingFault error.Memory before after held = Unit {0}

-- ---- lists in a map

module _ {S : Type 0} where
  -- what a map has of a registry: nothing where it has no list for it
  abbrev pub infos_of : IndexMap Registry (Vec PackageInfo Global) S → Registry → List PackageInfo
  infos_of all r = option_map_or (λ list. list.items) (get is_registry all r) []

  -- the same, as clauses see it
  abbrev pub listed_in : IndexMap Registry (Vec PackageInfo Global) S → Registry → List NamedInfo
  listed_in all r = map named_info (infos_of all r)

  -- each log is sound
  abbrev pub AreSoundLists : IndexMap Registry (Vec PackageInfo Global) S → Type 0
  AreSoundLists all = (r : Registry) → All IsSoundPackage (infos_of all r)

  -- no registry has an empty list
  abbrev pub HaveSome : IndexMap Registry (Vec PackageInfo Global) S → Type 0
  HaveSome all = (r : Registry) → IfSome (get is_registry all r) (λ list. list.items ≢ [])
