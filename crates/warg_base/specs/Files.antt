-- Files as a map from paths to bytes.
use Rattle.std.specs.Prelude.{◌≡◌, ℕ, nat_eq, Bool, not, ◌||◌, List, ◌++◌, filter, take, codes, bytes_eq, Option, Some, IfSome, ◌⊎◌, refl}
use Rattle.std.specs.Coded.{Coded, code_by, coded×, coded_list, coded_ℕ}
use Rattle.std.specs.Ordering.{nat_cmp}
use Rattle.std.specs.Cmp.Lexicographic.{slice_cmp}
use Rattle.std.specs.List.{starts_with}
use Rattle.std.specs.FinMap as map
use Rattle.warg_values.specs.Faults.{Schedule, schedule_code}

-- the files that are there: the bytes of each path that has a file
abbrev pub FileMap : Type 0
FileMap = map.FinMap (slice_cmp nat_cmp) (List ℕ)

-- the bytes of the file at a path
abbrev pub file_at : FileMap → List ℕ → Option (List ℕ)
file_at files path = map.get files path

-- the files once a path has these bytes
abbrev pub with_file : FileMap → List ℕ → List ℕ → FileMap
with_file files path bytes = map.insert files path bytes

-- a path lies under a folder: it is the folder's, a slash, and more
abbrev pub is_under : List ℕ → List ℕ → Bool
is_under folder path = starts_with nat_eq path (folder ++ codes "/")

-- the paths of the files under a folder, ascending by their bytes
abbrev pub paths_under : FileMap → List ℕ → List (List ℕ)
paths_under files folder = filter (is_under folder) (map.keys files)

-- the files once a path is gone, with all that lies under it
abbrev pub without_path : FileMap → List ℕ → FileMap
without_path files path = map.retain_keys files (λ q. not (bytes_eq q path || is_under path q))

-- What a refused removal may leave: some of the files of a path are gone, and each other file is as it was.
abbrev pub PartlyRemoved : FileMap → FileMap → List ℕ → Type 0
PartlyRemoved old new path = (stays : List ℕ → Bool) × (new ≡ map.retain_keys old (λ q. not (bytes_eq q path || is_under path q) || stays q))

-- What a refused write may leave: the file as it was, or with a front of the new bytes, and each other file as it was.
abbrev pub PartlyWritten : FileMap → FileMap → List ℕ → List ℕ → Type 0
PartlyWritten old new path bytes = (new ≡ old) ⊎ ((n : ℕ) × (new ≡ with_file old path (take n bytes)))

-- What a refused write leaves, where the files are told: they go on telling.
abbrev pub LeavesPartlyWritten : Option FileMap → Option FileMap → List ℕ → List ℕ → Type 0
LeavesPartlyWritten old new path bytes = IfSome old (λ files. (after : FileMap) × (new ≡ Some after) × PartlyWritten files after path bytes)

-- The same of a refused removal.
abbrev pub LeavesPartlyRemoved : Option FileMap → Option FileMap → List ℕ → Type 0
LeavesPartlyRemoved old new path = IfSome old (λ files. (after : FileMap) × (new ≡ Some after) × PartlyRemoved files after path)

-- what files in memory hold
pub record FilesHeld : Type 0 where
  pub files : FileMap
  pub schedule : Schedule

-- they are stored as the two
abbrev pub files_code : Coded FilesHeld
files_code = code_by (FileMap × Schedule) (coded× (map.code (coded_list coded_ℕ) (coded_list coded_ℕ)) schedule_code) (λ h. (h.files, h.schedule)) (λ p. record { files = p.0; schedule = p.1 }) (λ _. refl)
