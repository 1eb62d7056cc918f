-- What a reset takes away of the files in which registries are kept, and what a store of what is to be published does.
use Rattle.std.specs.Prelude.{◌≡◌, ℕ, nat_eq, ◌&&◌, ◌||◌, Bool, true, false, List, [], ◌∷◌, ◌++◌, bytes_eq, codes, Option, Some, None, ◌⊎◌}
use Rattle.std.specs.List.{list_all}
use Rattle.warg_base.specs.Files.{FileMap, LeavesPartlyRemoved, LeavesPartlyWritten, file_at, is_under, with_file, without_path}
use Rattle.warg_publish.specs.Publish.{PlainPublishInfo}
use Rattle.warg_publish_text.specs.PublishText.{publish_text}
use Rattle.warg_store.specs.Held.{Registry, is_reset}
use Rattle.warg_registry_files.specs.Paths.{Place, checkpoint_path, has_slash, is_named, operator_path, package_path, packages_path, percent, publish_path, slash, stands}

-- a path is this one, or lies under it
abbrev pub is_at : List ℕ → List ℕ → Bool
is_at path q = bytes_eq q path || is_under path q

-- ---- folders that a registry can have

abbrev pub is_of_name : Bool → ℕ → Bool
is_of_name first b = stands first b || nat_eq b percent

-- a name has only bytes that the folders' names of registries have
abbrev pub is_plain : List ℕ → Bool
is_plain [] = false
is_plain (b ∷ bs) = is_of_name true b && list_all (λ c. is_of_name false c) bs

-- a folder beside the home registry's can be a registry's, or is the home registry's
abbrev pub is_folder : List ℕ → List ℕ → Bool
is_folder own name = bytes_eq name own || is_plain name

-- what is kept in a registry's folder: the checkpoint, the log of the operator, what is to be published, and the logs
-- of packages
abbrev pub is_entry : List ℕ → Bool
is_entry path =
    bytes_eq path (codes "checkpoint")
    || (bytes_eq path (codes "operator.log")
    || (bytes_eq path (codes "pending-publish.json") || is_under (codes "package-logs") path))

-- a path is of what is kept in a folder that can be a registry's
pub record IsKept (place : Place) (q : List ℕ) : Type 0 where
  pub name : List ℕ
  pub entry : List ℕ
  pub is : q ≡ place.parent ++ slash ∷ name ++ slash ∷ entry
  pub single : has_slash name ≡ false
  pub of_folder : is_folder place.own name ≡ true
  pub is_one : is_entry entry ≡ true

-- ---- what goes

-- a reset, of all registries or of the home registry alone, takes this path away, with what lies under it
abbrev pub IsTaken : Place → Bool → List ℕ → Type 0
IsTaken place true q = IsKept place q
IsTaken place false q =
    (q ≡ checkpoint_path place None) ⊎ (q ≡ operator_path place None) ⊎ (q ≡ publish_path place)
    ⊎ (q ≡ packages_path place None)

-- a file may go
abbrev pub MayGo : Place → Bool → List ℕ → Type 0
MayGo place all q = (p : List ℕ) × IsTaken place all p × (is_at p q ≡ true)

-- files are told, each of which is as it was, or is gone, which it only is where it may go
pub record LeavesOthers (told : Option FileMap) (files : FileMap) (Goes : List ℕ → Type 0) : Type 0 where
  pub now : FileMap
  pub tells : told ≡ Some now
  pub each : (q : List ℕ) → (file_at now q ≡ file_at files q) ⊎ (Goes q × (file_at now q ≡ None))

-- the path is that of an entry of a registry, of which the home registry has what is to be published
abbrev pub IsPathOf : Place → Registry → List ℕ → Type 0
IsPathOf place r q =
    (q ≡ checkpoint_path place r) ⊎ (q ≡ operator_path place r) ⊎ ((r ≡ None) × (q ≡ publish_path place))
    ⊎ ((id : List ℕ) × (q ≡ package_path place (r, id)))

-- no file is left of the registries that are reset
abbrev pub HasNone : Place → Bool → FileMap → Type 0
HasNone place all now = (r : Registry) → is_named r ≡ true → is_reset all r ≡ true
    → (q : List ℕ) → IsPathOf place r q → file_at now q ≡ None

-- ---- a store of what is to be published

-- the files once what is to be published is kept, or was taken away
abbrev pub with_publish_file : Place → FileMap → Option PlainPublishInfo → FileMap
with_publish_file place files None = without_path files (publish_path place)
with_publish_file place files (Some info) = with_file files (publish_path place) (publish_text info)

-- what a refused store of it leaves of the files
abbrev pub LeavesPublishFile : Place → Option FileMap → Option FileMap → Option PlainPublishInfo → Type 0
LeavesPublishFile place old new None = LeavesPartlyRemoved old new (publish_path place)
LeavesPublishFile place old new (Some info) = LeavesPartlyWritten old new (publish_path place) (publish_text info)
